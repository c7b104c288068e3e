use Rattle.std.proofs.Common.{◌≡◌, ◌++◌, drop, map, string_bytes}
use Rattle.fluent_cli_report.specs.Unread.{unread_lines, unread_view}
use Rattle.fluent_cli_report.proofs.unread.unread_lines.Given as goal

abbrev pub invariant-loop-file : goal.invariant-loop-file
invariant-loop-file l =
    string_bytes l.lines ++ unread_lines (map unread_view (drop l.file-index l.files))
    ≡ unread_lines (map unread_view l.files)
