use Rattle.std.proofs.Common.{rules, ◌≡◌, Some}
use Rattle.fluent_answers.specs.Inside.Raw.{raw_view}
use Rattle.fluent_answers.specs.Records.{one_record}
use Rattle.fluent_answers.proofs.Shorter.{shorter}
use Rattle.fluent_answers.proofs.args.next_argument.Goals as goal

pub returns-clause-shorter : goal.returns-clause-shorter
returns-clause-shorter c =
    let is : one_record c.args.rest.now ≡ Some (raw_view c.in-Some.raw, c.in-Some.after.now) = search rules in
    shorter c.args.rest.now c.in-Some.after.now (raw_view c.in-Some.raw) is
