use Rattle.std.proofs.Common.{rules}
use Rattle.fluent_answers.proofs.SetSoFar.{many_first}
use Rattle.fluent_answers.proofs.args.read_many.Goals as goal

pub returns-in-Err-values-clause-err : goal.returns-in-Err-values-clause-err
returns-in-Err-values-clause-err c = many_first c.in-Ok.list.items c.args.bytes.now c.in-Ok.ensures.ok c.requires
