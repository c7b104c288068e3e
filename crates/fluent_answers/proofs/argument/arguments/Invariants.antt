use Rattle.std.proofs.Common.{length}
use Rattle.fluent_answers.specs.ArgumentView.{argument_view}
use Rattle.fluent_answers.specs.Records.{HasTexts}
use Rattle.fluent_answers.proofs.Stands.{Read}
use Rattle.fluent_answers.proofs.argument.arguments.Given as goal

-- the arguments so far stand before what is left
abbrev pub invariant-loop-rest : goal.invariant-loop-rest
invariant-loop-rest l = Read HasTexts argument_view l.list.items l.bytes l.rest

abbrev pub decreases-loop-rest : goal.decreases-loop-rest
decreases-loop-rest l = length l.rest
