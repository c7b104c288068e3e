use Rattle.std.proofs.Common.{rules, map}
use Rattle.fluent_answers.specs.Inside.Given.{given_view}
use Rattle.fluent_answers.specs.Inside.Raw.{raw_view}
use Rattle.fluent_answers.specs.Records.{HasTextValue}
use Rattle.fluent_answers.proofs.Stands.{turn, has_first}
use Rattle.fluent_answers.proofs.answers.given.read_given.Goals as goal

pub returns-in_default-text-clause-err : goal.returns-in_default-text-clause-err
returns-in_default-text-clause-err c = record {
  all = map given_view c.loop-rest.list.items;
  next = raw_view c.in-Some.raw;
  rest = c.loop-rest.rest.now;
  after = c.in-Some.after.now;
  before = c.loop-rest.invariant.0;
  texts = c.loop-rest.invariant.1;
  some = search rules;
  none = search rules;
}

pub returns-then-is_err-clause-err : goal.returns-then-is_err-clause-err
returns-then-is_err-clause-err c = has_first HasTextValue (map given_view c.loop-rest.list.items) c.args.bytes.now c.loop-rest.rest.now c.in-Some.after.now (given_view c.in-Some-text.given) c.loop-rest.invariant.0 c.loop-rest.invariant.1 (search rules) (search rules)

pub loop-rest-preserved : goal.loop-rest-preserved
loop-rest-preserved c = turn HasTextValue given_view c.loop-rest.list.items c.push.new.self.items c.in-Some-text.given c.args.bytes.now c.loop-rest.rest.now c.in-Some.after.now (search rules) c.loop-rest.invariant (search rules) (search rules)
