use Rattle.fluent_answers.specs.ArgumentView.{argument_view}
use Rattle.fluent_answers.proofs.args.read_one.Goals as goal

pub returns-in-Ok-clause-ok : goal.returns-in-Ok-clause-ok
returns-in-Ok-clause-ok c = record { has = record { one = argument_view c.in_ok-argument.argument; is = c.in_ok-argument.ensures.ok }; are = c.in-Ok.ensures }
