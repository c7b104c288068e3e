use Rattle.std.proofs.Common.{◌≡◌, ◌+◌, ◌≤◌, ◌++◌, length}
use Rattle.std.specs.Fmt.{decimal}
use Rattle.fluent_intl.proofs.decimal.backward.DecimalText.put_whole.Given as goal

abbrev pub invariant-loop-rest : goal.invariant-loop-rest
invariant-loop-rest l = (decimal l.rest ++ l.self ≡ decimal l.fn.whole ++ l.fn.self) × (length (decimal l.rest) + length l.self ≤ 40)

abbrev pub decreases-loop-rest : goal.decreases-loop-rest
decreases-loop-rest l = l.rest
