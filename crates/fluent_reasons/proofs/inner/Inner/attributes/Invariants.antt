use Rattle.std.proofs.Common.{◌≡◌, ◌-◌}
use Rattle.fluent_reasons.specs.Stopping.{turns}
use Rattle.fluent_reasons.specs.Reasons.{level, attribute_turn, attributes}
use Rattle.fluent_reasons.proofs.inner.Inner.attributes.Given as goal

abbrev pub invariant-attributes : goal.invariant-attributes
invariant-attributes g l =
    attributes (level l.self.depth) l.fn.s ≡ turns (λ _. attribute_turn (level l.self.depth)) (l._turn-end - l._turn) tt l.rest
