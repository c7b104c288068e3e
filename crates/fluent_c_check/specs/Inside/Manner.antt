-- How a report is written.
use Rattle.std.specs.Prelude.{◌≡◌, Bool, true, false, List, [], string_bytes}
use Rattle.fluent_patterns.specs.Found.{found_in}
use Rattle.fluent_sources.specs.Files.{Read}
use Rattle.fluent_check.specs.declared.checking.Found.{Found}
use Rattle.fluent_cli_report.specs.Reported.{Manner}
use Rattle.fluent_cli_report.specs.Rows.{errors_in, rows_of, warnings_in}
use Rattle.fluent_cli_report.specs.declared.report.Written.{Written}
use Rattle.fluent_cli_words.specs.declared.request.Format.{Format}
use Rattle.fluent_cli_words.specs.declared.request.Format.TheVariants as format
use Rattle.fluent_c_check.specs.Checks.{told_in}

abbrev pub format_of : Bool → Format
format_of true = format.Json
format_of false = format.Text

-- each finding is told, without a picture of its line, and nothing behind them
abbrev pub manner_in : Bool → Manner
manner_in json = record {
  format = format_of json;
  look = record { has_caret = false; has_color = false };
  quiet = true;
  every = true;
  strict = true;
}

-- What is found is written, and there is so much of it.
pub record TellsAll (json : Bool) (reads : List Read) (found : Found) (written : Written) : Type 0 where
  pub text : string_bytes written.text ≡ told_in json (rows_of reads [] (found_in found.findings))
  pub errors : written.counts.errors ≡ errors_in (rows_of reads [] (found_in found.findings))
  pub warnings : written.counts.warnings ≡ warnings_in (rows_of reads [] (found_in found.findings))
