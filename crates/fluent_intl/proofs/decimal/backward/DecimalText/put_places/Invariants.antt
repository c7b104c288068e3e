use Rattle.std.proofs.Common.{◌≡◌, ◌+◌, ◌-◌, ◌/◌, ◌^◌, ◌≤◌, ◌++◌, length, map}
use Rattle.std.specs.List.{range_with_len}
use Rattle.fluent_intl.specs.Decimal.{place_digit}
use Rattle.fluent_intl.proofs.decimal.backward.DecimalText.put_places.Given as goal

abbrev pub invariant-loop-left : goal.invariant-loop-left
invariant-loop-left l =
    (l.left ≤ 18) × (l.left + length l.self ≤ 40) × (l.rest ≡ l.fraction / 10 ^ (18 - l.left))
    × (map (place_digit l.fraction) (range_with_len 1 l.left) ++ l.self ≡ map (place_digit l.fraction) (range_with_len 1 l.places) ++ l.fn.self)

abbrev pub decreases-loop-left : goal.decreases-loop-left
decreases-loop-left l = l.left
