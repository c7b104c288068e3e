-- What is written of rows is what is told.
use Rattle.std.proofs.Common.{◌≡◌, ◌∙◌, ℕ, Bool, true, false, List, [], ◌∷◌, ◌++◌, flat_map, map, refl, ap, ap₂}
use Rattle.std.proofs.lemmas.List.{append-nil}
use Rattle.std.specs.Borrow.{Bor}
use Rattle.fluent_ast.specs.Tree.{Text}
use Rattle.fluent_patterns.specs.Found.{found_view}
use Rattle.fluent_patterns.specs.declared.finding.Finding.{Finding}
use Rattle.fluent_sources.specs.Files.{Read}
use Rattle.fluent_check.specs.declared.checking.Found.{Found}
use Rattle.fluent_cli_report.specs.Json.{json_report}
use Rattle.fluent_cli_report.specs.Report.{report, text_report}
use Rattle.fluent_cli_report.specs.Reported.{Manner, IsWritten, folds, manner_of, whole_report}
use Rattle.fluent_cli_report.specs.Rows.{Row, errors_in, line_text, rows_of, rows_told, warnings_in}
use Rattle.fluent_cli_report.specs.declared.options.Look.{Look}
use Rattle.fluent_cli_report.specs.declared.options.ReportOptions.{ReportOptions}
use Rattle.fluent_cli_report.specs.declared.report.Outcome.{Outcome}
use Rattle.fluent_cli_report.specs.declared.report.Written.{Written}
use Rattle.fluent_c_check.specs.Checks.{told_in}
use Rattle.fluent_c_check.specs.Inside.Manner.{TellsAll, manner_in}

abbrev plain : Look
plain = record { has_caret = false; has_color = false }

lines_shown : (rows : List Row) → text_report plain false rows ≡ flat_map line_text rows
lines_shown [] = refl
lines_shown (r ∷ rows) = ap₂ (λ xs ys. xs ++ ys) (append-nil (line_text r)) (lines_shown rows)

-- a report by all that it depends on
abbrev report_by : Manner → List Read → List (Bor Text) → List Finding → Bool → ℕ → ℕ → Text
report_by m reads allowed findings well errors warnings =
    whole_report m [] well errors warnings (rows_told (folds m) reads allowed (map found_view findings))

all_told : (json : Bool) (reads : List Read) (findings : List Finding) (well : Bool) (errors warnings : ℕ)
    → report_by (manner_in json) reads [] findings well errors warnings ≡ told_in json (rows_of reads [] (map found_view findings))
unfolding report
all_told true reads findings well errors warnings = append-nil (json_report false (rows_of reads [] (map found_view findings)))
all_told false reads findings well errors warnings =
    let rows = rows_of reads [] (map found_view findings) in append-nil (text_report plain false rows) ∙ lines_shown rows

pub written : (options : ReportOptions) (json : Bool) (texts reads : List Read) (outcome : Outcome) (found : Found) (w : Written)
    → manner_of options ≡ manner_in json → options.allowed.now ≡ [] → texts ≡ reads → outcome.findings.now ≡ found.findings.items
    → IsWritten options texts [] outcome w → TellsAll json reads found w
written options json texts reads outcome found w manner allowed read findings reports =
    let items = found.findings.items in
    let well = outcome.is_well in
    let by : Manner → List Read → List (Bor Text) → List Finding → Text = λ m rs names fs. report_by m rs names fs well w.counts.errors w.counts.warnings in
    let rows : List Read → List (Bor Text) → List Finding → List Row = λ rs names fs. rows_of rs names (map found_view fs) in
    let same : rows texts options.allowed.now outcome.findings.now ≡ rows reads [] items =
    ap (λ rs. rows rs options.allowed.now outcome.findings.now) read
    ∙ (ap (λ names. rows reads names outcome.findings.now) allowed ∙ ap (λ fs. rows reads [] fs) findings) in
    record {
      text = reports.text
          ∙ (ap (λ m. by m texts options.allowed.now outcome.findings.now) manner
          ∙ (ap (λ rs. by (manner_in json) rs options.allowed.now outcome.findings.now) read
          ∙ (ap (λ names. by (manner_in json) reads names outcome.findings.now) allowed
          ∙ (ap (λ fs. by (manner_in json) reads [] fs) findings
          ∙ all_told json reads items well w.counts.errors w.counts.warnings))));
      errors = reports.errors ∙ ap errors_in same;
      warnings = reports.warnings ∙ ap warnings_in same;
    }
