use Rattle.std.proofs.Common.{length}
use Rattle.fluent_answers.specs.Inside.Given.{given_view}
use Rattle.fluent_answers.specs.Records.{HasTextValue}
use Rattle.fluent_answers.proofs.Stands.{Read}
use Rattle.fluent_answers.proofs.answers.given.read_given.Given as goal

-- the answers so far stand before what is left
abbrev pub invariant-loop-rest : goal.invariant-loop-rest
invariant-loop-rest l = Read HasTextValue given_view l.list.items l.bytes l.rest

abbrev pub decreases-loop-rest : goal.decreases-loop-rest
decreases-loop-rest l = length l.rest
