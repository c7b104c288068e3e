use Rattle.std.proofs.Common.{◌≡◌, ◌-◌}
use Rattle.fluent_reasons.specs.Stopping.{turns, repeat}
use Rattle.fluent_reasons.specs.Reasons.{level, variant_turn}
use Rattle.fluent_reasons.specs.declared.kind.Seen.TheVariants as seen
use Rattle.fluent_reasons.proofs.inner.Inner.variant_turns.Given as goal

abbrev pub invariant-variants : goal.invariant-variants
invariant-variants g l =
    repeat (variant_turn (level l.self.depth)) seen.NoVariant l.fn.s ≡ turns (variant_turn (level l.self.depth)) (l._turn-end - l._turn) l.all l.rest
