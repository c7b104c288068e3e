-- What a report is, by what is asked of it, the files, what was found in them, and those that can't be read.
use Rattle.std.specs.Prelude.{◌≡◌, ◌==◌, ◌&&◌, ℕ, Bool, false, not, List, length, ◌++◌, flat_map, map, String, string_bytes}
use Rattle.std.proofs.Common.{Global}
use Rattle.fluent_patterns.specs.Found.{found_view}
use Rattle.fluent_sources.specs.Faults.{faults_of}
use Rattle.fluent_sources.specs.Files.{Adds, Read}
use Rattle.fluent_sources.specs.ReadFiles.{files_read}
use Rattle.fluent_sources.specs.Reading.{texts_read}
use Rattle.fluent_sources.specs.declared.source.Sources.{Sources}
use Rattle.fluent_ast.specs.Tree.{Text}
use Rattle.fluent_cli_report.specs.Report.{report}
use Rattle.fluent_cli_report.specs.Rows.{Row, errors_in, line_text, rows_in_order, rows_of, rows_told, warnings_in}
use Rattle.fluent_cli_report.specs.Unread.{Unread, unread_rows}
use Rattle.fluent_cli_report.specs.Written.{end_of, reason_of}
use Rattle.fluent_cli_words.specs.declared.request.Format.{Format}
use Rattle.fluent_cli_words.specs.declared.request.Format.TheVariants as format
use Rattle.fluent_cli_report.specs.declared.options.Look.{Look}
use Rattle.fluent_cli_report.specs.declared.options.ReportOptions.{ReportOptions}
use Rattle.fluent_cli_report.specs.declared.report.Outcome.{Outcome}
use Rattle.fluent_cli_report.specs.declared.report.Written.{Written}
use Rattle.fluent_cli_report.specs.declared.rows.Counts.{Counts}

-- How a report is written: its format, how it looks, whether what makes the status 1 is told alone, whether each finding is told, and whether a
-- warning makes the status 1.
pub record Manner : Type 0 where
  pub format : Format
  pub look : Look
  pub quiet : Bool
  pub every : Bool
  pub strict : Bool

abbrev pub manner_of : ReportOptions → Manner
manner_of options = record {
  format = options.format;
  look = options.look;
  quiet = options.is_quiet;
  every = options.is_every;
  strict = options.is_strict;
}

-- whether the first of the findings with one cause stand for all
abbrev pub folds_by : Format → Bool → Bool
folds_by format.Text every = not every
folds_by format.Json every = false
folds_by format.Github every = false
folds_by format.Sarif every = false

abbrev pub folds : Manner → Bool
folds m = folds_by m.format m.every

-- files that can't be read, the rows that are told, and what ends them, by how many errors and warnings there are
abbrev pub whole_report : Manner → List Unread → Bool → ℕ → ℕ → List Row → Text
whole_report m unread well errors warnings told =
    report m.format m.look (m.quiet && not m.strict) (unread_rows m.format unread ++ told)
    ++ end_of m.format m.quiet errors warnings (reason_of (length unread == 0) well m.strict errors warnings)

-- rows were written as it is asked for
abbrev pub WritesRows : ReportOptions → List Unread → Bool → Counts → List Row → String Global → String Global → Type 0
WritesRows options unread well counts told = Adds (whole_report (manner_of options) unread well counts.errors counts.warnings told)

-- The text has the rows that are told, and the rows of all are so many.
pub record IsWritten (options : ReportOptions) (reads : List Read) (unread : List Unread) (outcome : Outcome) (written : Written) : Type 0 where
  pub text : string_bytes written.text
      ≡ whole_report (manner_of options) unread outcome.is_well written.counts.errors written.counts.warnings
      (rows_told (folds (manner_of options)) reads options.allowed.now (map found_view outcome.findings.now))
  pub errors : written.counts.errors ≡ errors_in (rows_of reads options.allowed.now (map found_view outcome.findings.now))
  pub warnings : written.counts.warnings ≡ warnings_in (rows_of reads options.allowed.now (map found_view outcome.findings.now))

-- what is said of files beside an answer: what can't be read in them, and which ids come again in the same file
abbrev pub fault_lines : Sources → Text
fault_lines sources = flat_map line_text (rows_in_order (texts_read sources) (faults_of (files_read 0 sources)))
