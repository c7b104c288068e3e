use Rattle.std.proofs.Common.{◌≡◌, ◌+◌, ◌≤◌, take, length, map}
use Rattle.std.specs.List.{suffix_len}
use Rattle.fluent_ast.specs.View.{element_view}
use Rattle.fluent_syntax.specs.Layout.{is_feed}
use Rattle.fluent_syntax.proofs.parser.layout.drop_feeds.Given as goal

abbrev pub invariant-feeds : goal.invariant-feeds
invariant-feeds l =
    (l.end ≤ length l.out.items)
    × (suffix_len is_feed (map element_view l.out.items) + l.end ≡ suffix_len is_feed (take l.end (map element_view l.out.items)) + length l.out.items)

abbrev pub decreases-feeds : goal.decreases-feeds
decreases-feeds l = l.end
