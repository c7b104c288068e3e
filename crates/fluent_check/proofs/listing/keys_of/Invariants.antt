use Rattle.std.proofs.Common.{◌≡◌, ◌++◌, drop}
use Rattle.fluent_places.specs.Places.{views}
use Rattle.fluent_check.proofs.listing.keys_of.Given as goal

abbrev pub invariant-loop-place : goal.invariant-loop-place
invariant-loop-place l = views l.list.items ++ views (drop l.place-index l.place-items) ≡ views l.place-items
