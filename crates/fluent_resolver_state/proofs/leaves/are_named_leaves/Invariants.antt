use Rattle.std.proofs.Common.{◌≡◌, drop}
use Rattle.fluent_resolver_state.specs.Leaves.{are_named_leaves}
use Rattle.fluent_resolver_state.proofs.leaves.are_named_leaves.Given as goal

-- all are leaves where those left are
abbrev pub invariant-loop-argument : goal.invariant-loop-argument
invariant-loop-argument l = are_named_leaves l.arguments ≡ are_named_leaves (drop l.argument-index l.arguments)
