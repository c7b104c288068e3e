use Rattle.std.proofs.Common.{◌≡◌, drop}
use Rattle.fluent_resolver_state.specs.Locals.{are_literals}
use Rattle.fluent_resolver_state.proofs.locals.are_literals.Given as goal

-- all are literals where those left are
abbrev pub invariant-loop-argument : goal.invariant-loop-argument
invariant-loop-argument l = are_literals l.arguments ≡ are_literals (drop l.argument-index l.arguments)
