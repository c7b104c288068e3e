use Rattle.std.proofs.Common.{◌≡◌}
use Rattle.fluent_patterns.specs.Categories.{numbers_below}
use Rattle.fluent_patterns.proofs.categories.numbers_below.Given as goal

abbrev pub invariant-loop-n : goal.invariant-loop-n
invariant-loop-n l = l.list.items ≡ numbers_below l.n l.rules l.kind l.key
