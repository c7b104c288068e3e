use Rattle.std.proofs.Common.{◌≡◌, length, map}
use Rattle.fluent_langneg.specs.Lookup.{first_index, lookup, tried}
use Rattle.fluent_langneg.proofs.ranges.lookup.Given as goal

abbrev pub invariant-loop-index : goal.invariant-loop-index
invariant-loop-index g l = first_index (map g.A.AsStr.text l.available) (tried l.asked) ≡ lookup (map g.A.AsStr.text l.available) l.range

abbrev pub decreases-loop-index : goal.decreases-loop-index
decreases-loop-index g l = length l.asked
