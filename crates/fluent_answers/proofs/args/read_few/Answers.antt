use Rattle.std.proofs.Common.{rules, ◌≡◌, [], length, ap, arith}
use Rattle.fluent_answers.specs.ArgumentView.{args_view}
use Rattle.fluent_answers.proofs.SetSoFar.{not_one, one_set}
use Rattle.fluent_answers.proofs.args.read_few.Goals as goal

pub loop-rest-preserved : goal.loop-rest-preserved
loop-rest-preserved c = one_set c.args.bytes.now c.loop-rest.rest.now (args_view c.loop-rest.args) c.loop-rest.invariant c.in-Ok.after.now (args_view c.read_one.new.args) c.in-Ok.ensures.ok

pub returns-in-Err-clause-err : goal.returns-in-Err-clause-err
returns-in-Err-clause-err c =
    not_one c.args.bytes.now c.loop-rest.rest.now (args_view c.loop-rest.args) c.loop-rest.invariant (λ none. search (rules, none, c.loop-rest-test.true)) c.in-Err.fault c.in-Err.ensures.err
