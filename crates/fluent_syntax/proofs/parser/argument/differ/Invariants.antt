use Rattle.std.proofs.Common.{◌≡◌, ◌≤◌, true, length, map, drop}
use Rattle.fluent_ast.specs.View.{named_view}
use Rattle.fluent_syntax.specs.Expressions.{names, differ}
use Rattle.fluent_syntax.proofs.Names.{Holds}
use Rattle.fluent_syntax.proofs.parser.argument.differ.Given as goal

abbrev pub invariant-names : goal.invariant-names
invariant-names l = record {
  within : l.at ≤ length l.named;
  fresh : differ (names (map named_view (drop l.at l.named))) ≡ true;
  members : Holds l.later (names (map named_view (drop l.at l.named)));
}

abbrev pub decreases-names : goal.decreases-names
decreases-names l = l.at
