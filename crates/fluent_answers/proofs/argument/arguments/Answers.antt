use Rattle.std.proofs.Common.{rules, map}
use Rattle.fluent_answers.specs.ArgumentView.{argument_view}
use Rattle.fluent_answers.specs.Inside.Raw.{raw_view}
use Rattle.fluent_answers.specs.Records.{HasTexts}
use Rattle.fluent_answers.proofs.Stands.{turn, has_first}
use Rattle.fluent_answers.proofs.argument.arguments.Goals as goal

pub returns-in_default-text-clause-err : goal.returns-in_default-text-clause-err
returns-in_default-text-clause-err c = record {
  all = map argument_view c.loop-rest.list.items;
  next = raw_view c.in-Some.raw;
  rest = c.loop-rest.rest.now;
  after = c.in-Some.after.now;
  before = c.loop-rest.invariant.0;
  texts = c.loop-rest.invariant.1;
  some = search rules;
  none = search rules;
}

pub returns-then-is_err-clause-err : goal.returns-then-is_err-clause-err
returns-then-is_err-clause-err c = has_first HasTexts (map argument_view c.loop-rest.list.items) c.args.bytes.now c.loop-rest.rest.now c.in-Some.after.now (argument_view c.in-Some-text.argument) c.loop-rest.invariant.0 c.loop-rest.invariant.1 (search rules) (search rules)

pub loop-rest-preserved : goal.loop-rest-preserved
loop-rest-preserved c = turn HasTexts argument_view c.loop-rest.list.items c.push.new.self.items c.in-Some-text.argument c.args.bytes.now c.loop-rest.rest.now c.in-Some.after.now (search rules) c.loop-rest.invariant (search rules) (search rules)
