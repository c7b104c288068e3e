use Rattle.std.proofs.Common.{◌≡◌, List, ◌++◌, map}
use Rattle.std.specs.Prelude.{replicate}
use Rattle.fluent_ast.specs.Tree.{Element}
use Rattle.fluent_ast.specs.View.{element_view}
use Rattle.fluent_syntax.specs.Inside.Backwards.{backwards}
use Rattle.fluent_syntax.specs.Layout.{feed}
use Rattle.fluent_syntax.proofs.parser.layout.push_feeds.Given as goal

abbrev pub invariant-feeds : goal.invariant-feeds
invariant-feeds l = (done : List Element) → map element_view l.fn.out.items ≡ backwards done → map element_view l.out.items ≡ backwards (replicate l._turn feed ++ done)
