use Rattle.std.proofs.Common.{◌≡◌, [], map}
use Rattle.fluent_semantics.specs.Arguments.{set_all}
use Rattle.fluent_values.specs.Args.{pair_view}
use Rattle.fluent_values.specs.View.{named}
use Rattle.fluent_resolver_state.proofs.gathered.in_order.Given as goal

abbrev pub invariant-loop-name : goal.invariant-loop-name
invariant-loop-name g l = named g.C.FluentType.content l.args ≡ set_all (map (pair_view g.C.FluentType.content) l.yielded) []
