use Rattle.std.proofs.Common.{◌≡◌, ◌-◌}
use Rattle.fluent_reasons.specs.Stopping.{turns}
use Rattle.fluent_reasons.specs.Reasons.{level, element, pattern}
use Rattle.fluent_reasons.proofs.inner.Inner.pattern.Given as goal

abbrev pub invariant-elements : goal.invariant-elements
invariant-elements g l =
    pattern (level l.self.depth) l.fn.s ≡ turns (λ _. element (level l.self.depth)) (l._turn-end - l._turn) tt l.rest
