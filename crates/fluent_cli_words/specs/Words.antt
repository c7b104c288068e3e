-- What the words of a call ask for. `fault_of` and `subcommand_of` are what `clap` says of the words by the commands of the
-- program: the kinds of fault that it may find first, and the subcommand that the words name, with a row of each argument.
use Rattle.std.specs.Prelude.{◌≡◌, ◌≢◌, Bool, true, false, List, [], ◌∷◌, ◌++◌, Option, Some, None, codes, string_bytes}
use Rattle.std.specs.Borrow.{Bor}
use Rattle.clap.specs.Faults.{fault_of}
use Rattle.clap.specs.Kinds.{IsAmong, Kinds}
use Rattle.clap.specs.Simple.{subcommand_of}
use Rattle.clap.specs.Walk.{Row, Text}
use Rattle.clap.specs.declared.error.kind.ErrorKind.{ErrorKind}
use Rattle.clap.specs.declared.error.kind.ErrorKind.TheVariants.{DisplayHelp, DisplayVersion}
use Rattle.fluent_cli_words.specs.Commands.{program}
use Rattle.fluent_cli_words.specs.Faults.{check_fault, show_fault}
use Rattle.fluent_cli_words.specs.Requests.{IsCheck, IsList, IsShow}
use Rattle.fluent_cli_words.specs.declared.request.Asked.{Asked}
use Rattle.fluent_cli_words.specs.declared.request.Asked.TheVariants as asked
use Rattle.fluent_cli_words.specs.declared.request.Request.{Request}
use Rattle.fluent_cli_words.specs.declared.request.Request.TheVariants as request

-- ---- the names of files

-- the names of the files and folders that a request is about
abbrev pub file_names : Request → List (Bor Text)
file_names (request.Check check) = check.files.items
file_names (request.Show show) = show.files.items
file_names (request.List list) = list.files.items

-- the names of those that they were translated from
abbrev pub reference_names : Request → List (Bor Text)
reference_names (request.Check check) = check.references.items
reference_names (request.Show show) = []
reference_names (request.List list) = []

-- the names of those that are loaded with each of the others
abbrev pub beside_names : Request → List (Bor Text)
beside_names (request.Check check) = check.beside.items
beside_names (request.Show show) = show.beside.items
beside_names (request.List list) = []

-- ---- what is said in place of a request

-- a fault, as `clap` says its own
abbrev pub fault_text : Text → Text
fault_text why = (codes "error: " ++ why) ++ codes "\n\nFor more information, try '--help'.\n"

-- the fault is said
abbrev pub Refuses : Text → Asked → Type 0
Refuses why (asked.Fault text) = string_bytes text ≡ fault_text why
Refuses why _ = ⊥

-- help and the version, which are no fault
abbrev pub is_help : ErrorKind → Bool
is_help DisplayHelp = true
is_help DisplayVersion = true
is_help _ = false

-- `clap` says it, as help or as a fault; nothing is known of its text
abbrev pub Tells : ErrorKind → Asked → Type 0
Tells kind (asked.Help text) = is_help kind ≡ true
Tells kind (asked.Fault text) = is_help kind ≡ false
Tells kind (asked.Request request) = ⊥

-- one of the kinds is told
abbrev pub TellsOneOf : Kinds → Asked → Type 0
TellsOneOf kinds asked = (kind : ErrorKind) × IsAmong kind kinds × Tells kind asked

-- ---- what is asked for

abbrev pub IsAsked : (Request → Type 0) → Asked → Type 0
IsAsked Is (asked.Request request) = Is request
IsAsked Is _ = ⊥

abbrev pub ChecksBy : List Row → Request → Type 0
ChecksBy rows (request.Check check) = IsCheck rows check
ChecksBy rows _ = ⊥

abbrev pub ShowsBy : List Row → Request → Type 0
ShowsBy rows (request.Show show) = IsShow rows show
ShowsBy rows _ = ⊥

abbrev pub ListsBy : List Row → Request → Type 0
ListsBy rows (request.List list) = IsList rows list
ListsBy rows _ = ⊥

-- the fault is said, or where there is none, this is asked for
abbrev pub RefusesOr : Option Text → (Request → Type 0) → Asked → Type 0
RefusesOr (Some why) Is asked = Refuses why asked
RefusesOr None Is asked = IsAsked Is asked

-- what a subcommand asks for, by its name and what the words give; the third is `list`
pub record AsksIn (name : Text) (rows : List Row) (asked : Asked) : Type 0 where
  pub check : name ≡ codes "check" → RefusesOr (check_fault rows) (ChecksBy rows) asked
  pub show : name ≡ codes "show" → RefusesOr (show_fault rows) (ShowsBy rows) asked
  pub list : name ≢ codes "check" → name ≢ codes "show" → IsAsked (ListsBy rows) asked

-- by the kinds of fault that the words may have, and the subcommand that they name
abbrev pub AsksBy : Kinds → Option (Text × List Row) → Asked → Type 0
AsksBy [] (Some found) asked = AsksIn found.0 found.1 asked
AsksBy [] None asked = Refuses (codes "no subcommand") asked
AsksBy (kind ∷ kinds) found asked = TellsOneOf (kind ∷ kinds) asked

abbrev pub Asks : List Text → Asked → Type 0
Asks words asked = AsksBy (fault_of program words) (subcommand_of program words) asked
