use Rattle.std.proofs.Common.{◌≡◌, drop}
use Rattle.fluent_patterns.specs.Categories.{stands_in}
use Rattle.fluent_patterns.proofs.categories.stands_in.Given as goal

abbrev pub invariant-loop-at : goal.invariant-loop-at
invariant-loop-at l = stands_in l.part (drop l.at l.bytes) ≡ stands_in l.part l.bytes
