-- What a check of sources answers.
use Rattle.std.specs.Prelude.{◌≡◌, ◌≤◌, ◌<◌, ◌⊎◌, ℕ, Bool, true, false, List, [], ◌∷◌, ◌++◌, length, flat_map, map, Option, None, Some, IsTrue}
use Rattle.std.specs.Option.{option_map}
use Rattle.std.specs.Str.{IsUtf8}
use Rattle.fluent_text.specs.Changes.{Change, old, new}
use Rattle.fluent_ast.specs.Tree.{Text, Entry}
use Rattle.fluent_syntax.specs.Chunks.{entries}
use Rattle.fluent_answers.specs.Records.{Record, Are, NotRead}
use Rattle.fluent_answers.specs.declared.fault.Fault.{Fault}
use Rattle.fluent_answers.specs.declared.fault.Fault.TheVariants as read_fault
use Rattle.fluent_patterns.specs.Found.{found_in}
use Rattle.fluent_check.specs.Faultless.{AreFaultless, tag_of}
use Rattle.fluent_sources.specs.Files.{Read}
use Rattle.fluent_sources.specs.Groups.{Group}
use Rattle.fluent_check.specs.Looks.{IsFound}
use Rattle.fluent_sources.specs.ReadFiles.{files_of}
use Rattle.fluent_check.specs.declared.checking.Found.{Found}
use Rattle.fluent_sources.specs.declared.groups.Grouping.TheVariants.{Together}
use Rattle.fluent_check.specs.declared.checking.Settings.{Settings}
use Rattle.fluent_cli_report.specs.Json.{json_report}
use Rattle.fluent_cli_report.specs.Rows.{Row, errors_in, line_text, rows_of, warnings_in}
use Rattle.fluent_places.specs.Asked.{texts}
use Rattle.fluent_c_handles.specs.Answers.{Given}
use Rattle.fluent_c_check.specs.declared.check.Checked.{Checked}
use Rattle.fluent_c_check.specs.declared.handed.CheckFault.{CheckFault}
use Rattle.fluent_c_check.specs.declared.handed.CheckFault.TheVariants as fault

-- ---- what is handed over

-- The tag of a language, and runs of records: sources, those that are loaded before them, those that they were translated from, and functions.
pub record Wanted : Type 0 where
  pub language : Text
  pub sources : Text
  pub beside : Text
  pub references : Text
  pub functions : Text

-- the records of each run
pub record Lists : Type 0 where
  pub sources : List Record
  pub beside : List Record
  pub references : List Record
  pub functions : List Record

-- All is text, and these are the records.
pub record HandsOver (wanted : Wanted) (lists : Lists) : Type 0 where
  pub language : IsUtf8 wanted.language
  pub sources : Are lists.sources wanted.sources
  pub beside : Are lists.beside wanted.beside
  pub references : Are lists.references wanted.references
  pub functions : Are lists.functions wanted.functions

-- a record is a source by its name and its text, or a function by its name
abbrev pub source_of : Record → Read
source_of r = record { name = r.name; text = r.value; had_mark = false }

abbrev pub reads_of : List Record → List Read
reads_of all = map source_of all

abbrev pub names_of : List Record → List Text
names_of all = map (λ r. r.name) all

-- all sources, in the order in which they are numbered
abbrev pub all_reads : Lists → List Read
all_reads lists = reads_of lists.beside ++ (reads_of lists.sources ++ reads_of lists.references)

-- ---- what is found

-- the language of a tag, unless that is empty
abbrev pub language_of : Text → Option Text
language_of [] = None
language_of (c ∷ cs) = Some (c ∷ cs)

-- Sources are looked at so: they count as one, and categories that no whole number up to 999 has are not missed.
pub record IsSetBy (tag : Text) (names : List Text) (settings : Settings) : Type 0 where
  pub language : option_map (λ t. t.now) settings.language ≡ language_of tag
  pub functions : texts settings.functions.now ≡ names
  pub grouping : settings.grouping ≡ Together
  pub all_categories : settings.has_all_categories ≡ false

-- the sources as they are looked at together, by what the grammar reads in them
abbrev pub group_of : Lists → Group
group_of lists =
    let first = files_of 0 (reads_of lists.beside) in
    let own = files_of (length first) (reads_of lists.sources) in
    record { beside = first; own = own; references = files_of (length (first ++ own)) (reads_of lists.references) }

abbrev pub entries_in : List Read → List (List Entry)
entries_in reads = map (λ read. entries read.text) reads

-- This is what is found in them.
pub record Finds (language : Text) (lists : Lists) (found : Found) : Type 0 where
  pub settings : Settings
  pub set : IsSetBy language (names_of lists.functions) settings
  pub is : IsFound settings (group_of lists) found
  -- where the linter finds nothing, no text of the sources ever shows an error, in a bundle that has them and the functions that they call
  pub clean : IsTrue found.is_clean
      → AreFaultless (tag_of settings.language) (entries_in (reads_of lists.beside) ++ entries_in (reads_of lists.sources))

-- ---- what is told

-- the rows of what is found: by source, then by byte, no line twice
abbrev pub rows_in : Lists → Found → List Row
rows_in lists found = rows_of (all_reads lists) [] (found_in found.findings)

-- a line for each, or a list of objects on one line
abbrev pub told_in : Bool → List Row → Text
told_in true rows = json_report false rows
told_in false rows = flat_map line_text rows

-- The text was given, and what is told beside it.
pub record GivesReport (wanted : Wanted) (json : Bool) (out out' : List ℕ) (told : Checked) : Type 0 where
  pub lists : Lists
  pub handed : HandsOver wanted lists
  pub found : Found
  pub finds : Finds wanted.language lists found
  pub given : Given (told_in json (rows_in lists found)) out out' told.text
  pub errors : told.errors ≡ errors_in (rows_in lists found)
  pub warnings : told.warnings ≡ warnings_in (rows_in lists found)
  pub clean : told.is_clean ≡ found.is_clean

-- ---- why nothing is told

-- of the first of these runs that can't be read
abbrev pub NoneFollows : List Text → Fault → Type 0
NoneFollows [] f = ⊥
NoneFollows (run ∷ runs) f = NotRead run f ⊎ ((all : List Record) × Are all run × NoneFollows runs f)

abbrev pub runs_of : Wanted → List Text
runs_of wanted = wanted.sources ∷ wanted.beside ∷ wanted.references ∷ wanted.functions ∷ []

abbrev pub Refuses : Wanted → CheckFault → Type 0
Refuses wanted fault.Language = ¬ (IsUtf8 wanted.language)
Refuses wanted (fault.Records f) = IsUtf8 wanted.language × NoneFollows (runs_of wanted) f
Refuses wanted fault.Memory = (lists : Lists) × HandsOver wanted lists

abbrev pub status_of : CheckFault → ℕ
status_of fault.Language = 4
status_of (fault.Records read_fault.Cut) = 9
status_of (fault.Records read_fault.NotText) = 10
status_of (fault.Records read_fault.Memory) = 2
status_of fault.Memory = 2

-- There is a fault with this status, and its cause.
pub record RefusesBy (wanted : Wanted) (status : ℕ) : Type 0 where
  pub fault : CheckFault
  pub is : status ≡ status_of fault
  pub cause : Refuses wanted fault

-- ---- both

abbrev pub nothing_told : Checked
nothing_told = record { text = 0; errors = 0; warnings = 0; is_clean = false }

-- The report was given, or nothing was, as the status says.
pub record SourcesChecked (wanted : Wanted) (json : Bool) (out out' : List ℕ) (told : Checked) (status : ℕ) : Type 0 where
  pub given : status ≤ 1 → GivesReport wanted json out out' told
  -- the buffer had room, or it had not
  pub fits : status ≡ 0 → told.text ≤ length out
  pub short : status ≡ 1 → length out < told.text
  pub refused : 1 < status → RefusesBy wanted status
  pub stays : 1 < status → (out' ≡ out) × (told ≡ nothing_told)

abbrev pub wanted_of : Text → Text → Text → Text → Text → Wanted
wanted_of language sources beside references functions =
    record { language = language; sources = sources; beside = beside; references = references; functions = functions }

-- the same of what the code is handed
abbrev pub ChecksSources : Text → Text → Text → Text → Text → Bool → Change (List ℕ) → Change Checked → ℕ → Type 0
ChecksSources language sources beside references functions json out told status =
    SourcesChecked (wanted_of language sources beside references functions) json (old out) (new out) (new told) status
