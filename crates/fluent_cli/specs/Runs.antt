-- What a run leaves, by what is asked for and the contents of its files. What a check gives stands in `Checked`, what is shown in `Shown`.
use Rattle.std.specs.Prelude.{◌≡◌, ◌==◌, ◌&&◌, Bool, true, false, not, List, [], ◌++◌, length, is_some, string_bytes}
use Rattle.fluent_sources.specs.Files.{mark_lines}
use Rattle.fluent_sources.specs.Reading.{texts_read}
use Rattle.fluent_cli_report.specs.Unread.{Unread, unread_lines}
use Rattle.fluent_cli_words.specs.declared.request.Request.{Request}
use Rattle.fluent_cli_words.specs.declared.request.Request.TheVariants as request
use Rattle.fluent_cli.specs.Answers.{Leaves}
use Rattle.fluent_cli.specs.Checked.{IsChecked}
use Rattle.fluent_cli.specs.Inputs.{HasRead, readable, texts_in}
use Rattle.fluent_cli.specs.Listed.{IsListed}
use Rattle.fluent_cli.specs.Shown.{IsShown}
use Rattle.fluent_cli.specs.declared.answer.Answer.{Answer}
use Rattle.fluent_cli.specs.declared.answer.Status.{Status}
use Rattle.fluent_cli.specs.declared.answer.Status.TheVariants.{Fault}
use Rattle.fluent_cli.specs.declared.reading.File.{File}
use Rattle.fluent_cli.specs.declared.reading.Inputs.{Inputs}

-- whether each file goes with the reference at its place
abbrev pub are_pairs : Request → Bool
are_pairs (request.Check check) = is_some check.translation
are_pairs (request.Show show) = false
are_pairs (request.List list) = false

-- whether there has to be a file that can be read: a check reports where there is none
abbrev pub needs_file : Request → Bool
needs_file (request.Check check) = false
needs_file (request.Show show) = true
needs_file (request.List list) = true

-- ---- what a request gives over what was read

abbrev pub Gives : Request → Inputs → List Unread → Answer → Type 0
Gives (request.Check check) inputs unread answer = IsChecked check inputs unread answer
Gives (request.Show show) inputs unread answer = IsShown show inputs answer
Gives (request.List list) inputs unread answer = IsListed inputs.sources answer

-- the status, by whether all files could be read
abbrev pub status_by_whole : Bool → Status → Status
status_by_whole true status = status
status_by_whole false status = Fault

-- After what is said of files that can't be read, and of byte order marks.
pub record GivesAfter (request : Request) (inputs : Inputs) (unread : List Unread) (answer : Answer) : Type 0 where
  pub given : Answer
  pub gives : Gives request inputs unread given
  pub leaves : Leaves (status_by_whole (length unread == 0) given.status) (string_bytes given.output)
      ((unread_lines unread ++ mark_lines (texts_in inputs)) ++ string_bytes given.errors) answer

abbrev pub is_lost_by : Bool → Bool → Bool → Bool
is_lost_by needs nothing whole = needs && (nothing && not whole)

-- whether no file is left that is needed
abbrev pub is_lost : Request → Inputs → List Unread → Bool
is_lost request inputs unread = is_lost_by (needs_file request) (length (texts_read inputs.sources) == 0) (length unread == 0)

abbrev pub GivesBy : Bool → Request → Inputs → List Unread → Answer → Type 0
GivesBy true request inputs unread answer = Leaves Fault [] (unread_lines unread) answer
GivesBy false request inputs unread answer = GivesAfter request inputs unread answer

-- then it is said which can't be read, and that is all
abbrev pub GivesOver : Request → Inputs → List Unread → Answer → Type 0
GivesOver request inputs unread answer = GivesBy (is_lost request inputs unread) request inputs unread answer

-- ---- what it gives over files

-- What can be read is read, the rest is said, and over that the request gives the answer.
pub record Runs (request : Request) (beside files references : List File) (answer : Answer) : Type 0 where
  pub inputs : Inputs
  pub has_read : HasRead (readable (are_pairs request) beside files references) inputs
  pub gives : GivesOver request inputs (readable (are_pairs request) beside files references).unread answer
