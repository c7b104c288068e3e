-- The rows of reports.
use Rattle.std.proofs.Common.{refl}
use Rattle.std.specs.Fmt.{digits}
use Rattle.std.specs.Str.{chars}
use Rattle.percent_encoding.proofs.OnLiterals.{percent_encoding_on_literals}
use Rattle.serde_json.proofs.OnLiterals.{serde_json_on_literals}
use Rattle.fluent_cli_report.specs.ReportRows.{Logs, Reports}

pub reports : Reports
unfolding digits chars serde_json_on_literals
reports = record {
  people = refl;
  people_little = refl;
  people_none = refl;
  caret = refl;
  colored = refl;
  counts = refl;
  counts_quiet = refl;
  counts_json = refl;
  reason_errors = refl;
  reason_strict = refl;
  reason_maybe = refl;
  reason_unread = refl;
  unread = refl;
  unread_people = refl;
  unread_commands = refl;
  commands = refl;
  json_error = refl;
  json_warning = refl;
  json_little = refl;
  json_none = refl;
}

pub logs : Logs
unfolding digits serde_json_on_literals percent_encoding_on_literals
logs = record {
  result = refl;
  little = refl;
  rules = refl;
  log = refl;
}
