use Rattle.std.proofs.Common.{◌≡◌, map, take}
use Rattle.std.specs.List.{filter_map}
use Rattle.fluent_langneg.specs.Lookup.{each_once, lookup}
use Rattle.fluent_langneg.proofs.order.negotiate.Given as goal

abbrev pub invariant-loop-range : goal.invariant-loop-range
invariant-loop-range g l = l.indices.items ≡ each_once (filter_map (lookup (map g.A.AsStr.text l.available)) (map g.R.AsStr.text (take l.range-index l.requested)))
