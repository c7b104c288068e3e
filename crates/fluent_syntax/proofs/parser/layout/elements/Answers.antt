use Rattle.std.proofs.Common.{◌≡◌, map, ap, ◌∙◌}
use Rattle.fluent_ast.specs.View.{element_view}
use Rattle.fluent_syntax.specs.Layout.{elements, lines, trim_last, trim_start, is_feed, common_indent}
use Rattle.fluent_syntax.specs.Inside.PieceView.{piece_view}
use Rattle.std.specs.Prelude.{reverse}
use Rattle.fluent_syntax.proofs.Reversed.{map-reverse}
use Rattle.fluent_syntax.proofs.Ends.{trimmed_after}
use Rattle.fluent_syntax.proofs.parser.layout.elements.Goals as goal

pub returns : goal.returns
unfolding elements
returns c =
    let all = lines c.common_indent-common.result (map piece_view c.args.pieces.items) in
    let turned : map element_view c.reverse.new.self.items ≡ reverse (map element_view c.drop_feeds.new.out.items) = ap (map element_view) c.reverse.ensures.items ∙ map-reverse element_view c.drop_feeds.new.out.items in
    let prefix : reverse (map element_view c.drop_feeds.new.out.items) ≡ trim_start all = ap reverse c.drop_feeds.ensures ∙ trimmed_after is_feed all _ c.in_ok-out.ensures in
    c.in_ok-trim_last.ensures ∙ (ap trim_last (turned ∙ prefix) ∙ ap (λ n. trim_last (trim_start (lines n (map piece_view c.args.pieces.items)))) (c.common_indent-common.ensures ∙ ap (λ ps. common_indent (map piece_view ps)) c.deref.ensures.value))
