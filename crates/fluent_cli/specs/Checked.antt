-- What a check gives.
use Rattle.std.specs.Prelude.{◌≡◌, ◌==◌, ◌&&◌, ◌||◌, ℕ, not, Bool, true, false, IsTrue, List, [], ◌∷◌, is_some, if◌then◌else◌}
use Rattle.std.specs.Borrow.{Bor}
use Rattle.fluent_ast.specs.Tree.{Text}
use Rattle.fluent_patterns.specs.Found.{found_in}
use Rattle.fluent_check.specs.Faultless.{AreFaultlessBy, tag_of}
use Rattle.fluent_sources.specs.Groups.{read_group}
use Rattle.fluent_check.specs.Looks.{IsFound}
use Rattle.fluent_sources.specs.Reading.{entries_read}
use Rattle.fluent_check.specs.declared.checking.Found.{Found}
use Rattle.fluent_sources.specs.declared.groups.Grouping.{Grouping}
use Rattle.fluent_sources.specs.declared.groups.Grouping.TheVariants.{Together, Each, Pairs}
use Rattle.fluent_check.specs.declared.checking.Settings.{Settings}
use Rattle.fluent_cli_report.specs.Reported.{Manner, folds, whole_report}
use Rattle.fluent_cli_report.specs.Rows.{Row, errors_in, rows_of, rows_told, warnings_in}
use Rattle.fluent_cli_report.specs.Unread.{Unread}
use Rattle.fluent_cli_words.specs.declared.request.CheckRequest.{CheckRequest}
use Rattle.fluent_cli.specs.Answers.{Leaves}
use Rattle.fluent_cli.specs.Inputs.{texts_in}
use Rattle.fluent_cli.specs.declared.answer.Answer.{Answer}
use Rattle.fluent_cli.specs.declared.answer.Status.{Status}
use Rattle.fluent_cli.specs.declared.answer.Status.TheVariants.{Fine, Wrong}
use Rattle.fluent_cli.specs.declared.reading.Inputs.{Inputs}

-- ---- what is found

-- which files are looked at together
abbrev pub grouping_of : CheckRequest → Grouping
grouping_of request = if is_some request.translation then Pairs else (if request.is_each then Each else Together)

-- files are looked at as it is asked for
pub record IsSetBy (request : CheckRequest) (settings : Settings) : Type 0 where
  pub language : settings.language ≡ request.language
  pub grouping : settings.grouping ≡ grouping_of request
  pub functions : settings.functions.now ≡ request.functions.items
  pub all_categories : settings.has_all_categories ≡ request.has_all_categories

-- this is what is found as it is asked for
pub record FindsIn (request : CheckRequest) (inputs : Inputs) (found : Found) : Type 0 where
  pub settings : Settings
  pub set : IsSetBy request settings
  pub is : IsFound settings (read_group inputs.beside inputs.sources inputs.references) found
  -- where the linter finds nothing, nothing in the files and those beside them ever shows an error, in a bundle that has them and the functions that they
  -- call
  pub clean : IsTrue found.is_clean
      → AreFaultlessBy settings.grouping (tag_of settings.language) (entries_read inputs.beside) (entries_read inputs.sources)

-- ---- what is answered

-- the rows that are reported of what is found
abbrev pub rows_for : CheckRequest → Inputs → Found → List Row
rows_for request inputs found = rows_of (texts_in inputs) request.allowed.items (found_in found.findings)

abbrev pub is_empty : List (Bor Text) → Bool
is_empty [] = true
is_empty (x ∷ xs) = false

-- where no kind of finding is allowed, the linter finds nothing
abbrev pub is_well : CheckRequest → Bool → Bool
is_well request clean = clean || not (is_empty request.allowed.items)

-- the status, by whether warnings are wrong too, and how many errors and warnings there are
abbrev pub status_by : Bool → ℕ → ℕ → Status
status_by strict errors warnings = if errors == 0 && (not strict || warnings == 0) then Fine else Wrong

abbrev pub status_over : Bool → Status → Status
status_over true status = status
status_over false status = Wrong

abbrev pub status_for : CheckRequest → Inputs → Found → Status
status_for request inputs found =
    status_over (is_well request found.is_clean)
    (status_by request.is_strict (errors_in (rows_for request inputs found)) (warnings_in (rows_for request inputs found)))

-- how the report is written
abbrev pub manner_for : CheckRequest → Manner
manner_for request = record {
  format = request.format;
  look = record { has_caret = request.has_caret; has_color = request.has_color };
  quiet = request.is_quiet;
  every = request.is_every;
  strict = request.is_strict;
}

-- the rows that are told: the first of the findings with one cause may stand for all
abbrev pub told_for : CheckRequest → Inputs → Found → List Row
told_for request inputs found =
    rows_told (folds (manner_for request)) (texts_in inputs) request.allowed.items (found_in found.findings)

abbrev pub report_for : CheckRequest → Inputs → List Unread → Found → Text
report_for request inputs unread found =
    whole_report (manner_for request) unread (is_well request found.is_clean)
    (errors_in (rows_for request inputs found)) (warnings_in (rows_for request inputs found)) (told_for request inputs found)

-- the report of what was found is printed, and the status goes by it
abbrev pub IsReported : CheckRequest → Inputs → List Unread → Found → Answer → Type 0
IsReported request inputs unread found =
    Leaves (status_for request inputs found) (report_for request inputs unread found) []

-- What is found is reported, and which files can't be read.
pub record IsChecked (request : CheckRequest) (inputs : Inputs) (unread : List Unread) (answer : Answer) : Type 0 where
  pub found : Found
  pub finds : FindsIn request inputs found
  pub reported : IsReported request inputs unread found answer
