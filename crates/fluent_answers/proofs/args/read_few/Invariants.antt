use Rattle.std.proofs.Common.{length}
use Rattle.fluent_answers.specs.ArgumentView.{args_view}
use Rattle.fluent_answers.proofs.SetSoFar.{SoFar}
use Rattle.fluent_answers.proofs.args.read_few.Given as goal

-- the arguments so far stand before what is left
abbrev pub invariant-loop-rest : goal.invariant-loop-rest
invariant-loop-rest l = SoFar l.bytes l.rest (args_view l.args)

abbrev pub decreases-loop-rest : goal.decreases-loop-rest
decreases-loop-rest l = length l.rest
