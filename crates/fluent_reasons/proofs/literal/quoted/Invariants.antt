use Rattle.std.proofs.Common.{◌≡◌, ◌-◌}
use Rattle.fluent_reasons.specs.Stopping.{turns, repeated}
use Rattle.fluent_reasons.specs.Reasons.{quoted_turn}
use Rattle.fluent_reasons.proofs.literal.quoted.Given as goal

abbrev pub invariant-quoted : goal.invariant-quoted
invariant-quoted l = repeated quoted_turn l.fn.s ≡ turns (λ _. quoted_turn) (l._turn-end - l._turn) tt l.rest
