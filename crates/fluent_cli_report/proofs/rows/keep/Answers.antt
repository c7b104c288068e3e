use Rattle.std.proofs.Common.{◌≡◌, ◌∙◌, true, false, bytes_eq, string_bytes, refl, sym, ap}
use Rattle.std.specs.List.{list_any}
use Rattle.fluent_patterns.specs.Found.{found_view}
use Rattle.fluent_sources.specs.Lined.{lined_views}
use Rattle.fluent_cli_report.specs.Rows.{line_text, row_of}
use Rattle.fluent_cli_report.proofs.Once.{kept_again, kept_new}
use Rattle.fluent_cli_report.proofs.rows.keep.Goals as goal

pub returns-then-is_known : goal.returns-then-is_known
returns-then-is_known c =
    let reads = lined_views c.args.files.now in
    let f = found_view c.args.finding.now in
    let text = c.as_str.result.now in
    let is : text ≡ line_text (row_of reads f) = c.as_str.ensures.value ∙ (c.in_ok-line.ensures ∙ ap line_text c.in_ok-row.ensures) in
    kept_again reads f text c.args.lines.now.keys c.args.kept.now is (sym c.is_known.ensures ∙ c.if-is_known.true)

pub returns : goal.returns
returns c =
    let reads = lined_views c.args.files.now in
    let f = found_view c.args.finding.now in
    let text = c.as_str.result.now in
    let is : text ≡ line_text (row_of reads f) = c.as_str.ensures.value ∙ (c.in_ok-line.ensures ∙ ap line_text c.in_ok-row.ensures) in
    kept_new reads f text c.args.lines.now.keys c.args.kept.now is c.in_ok-line.line c.args.finding.now _ c.push.new.self (sym c.is_known.ensures ∙ c.if-is_known.false)
    (sym c.as_str.ensures.value) refl c.in_ok-note.ensures c.in_ok-push.ensures.items
