use Rattle.std.proofs.Common.{◌≡◌, ◌++◌, drop, map, string_bytes}
use Rattle.fluent_patterns.specs.Found.{found_in, found_view}
use Rattle.fluent_sources.specs.Lined.{lined_views}
use Rattle.fluent_cli_report.specs.Rows.{kept, kept_after}
use Rattle.fluent_cli_report.proofs.rows.kept_of.Given as goal

abbrev pub invariant-loop-finding : goal.invariant-loop-finding
invariant-loop-finding l =
    found_in l.kept ++ kept_after (lined_views l.files) (map string_bytes l.lines.keys) (map found_view (drop l.finding-index l.findings))
    ≡ kept (lined_views l.files) (map found_view l.findings)
