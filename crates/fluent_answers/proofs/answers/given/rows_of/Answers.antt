use Rattle.std.proofs.Common.{arith}
use Rattle.fluent_answers.proofs.AnswerProofs.{keeps_more}
use Rattle.fluent_answers.proofs.answers.given.rows_of.Goals as goal

pub loop-given-preserved : goal.loop-given-preserved
loop-given-preserved c = keeps_more c.args.list.now c.loop-given.given-index _ c.loop-given.rows c.keep_first.new.rows (omega arith) c.loop-given.invariant c.in_ok-keep_first.ensures
