use Rattle.std.proofs.Common.{◌∙◌, ap, ap₂}
use Rattle.serde_json.specs.Written.{has_float}
use Rattle.fluent_cli_report.specs.Kept.{row_views}
use Rattle.fluent_cli_report.specs.Sarif.{kinds, sarif_log}
use Rattle.fluent_cli_report.proofs.Floatless.{sarif_has_none}
use Rattle.fluent_cli_report.proofs.sarif.put_sarif.Goals as goal

pub put_value-requires : goal.put_value-requires
put_value-requires c =
    ap has_float (c.in_ok-log.ensures ∙ ap₂ sarif_log c.in_ok-rules.ensures c.in_ok-results.ensures)
    ∙ sarif_has_none kinds c.args.is_little (row_views c.args.rows.now)
