use Rattle.std.proofs.Common.{◌≡◌, ◌-◌, ◌/◌, ◌%◌, ◌^◌, ◌≤◌}
use Rattle.fluent_intl.proofs.decimal.text.significant_places.Given as goal

abbrev pub invariant-loop-places : goal.invariant-loop-places
invariant-loop-places l = (l.places ≤ 18) × (l.rest ≡ l.fraction / 10 ^ (18 - l.places)) × (l.fraction % 10 ^ (18 - l.places) ≡ 0)

abbrev pub decreases-loop-places : goal.decreases-loop-places
decreases-loop-places l = l.places
