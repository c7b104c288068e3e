use Rattle.std.proofs.Common.{◌∙◌, ap, not}
use Rattle.fluent_patterns.proofs.Senses.{among, inserted}
use Rattle.fluent_patterns.proofs.sense.add_sense.Goals as goal

pub returns-clause-is_new : goal.returns-clause-is_new
returns-clause-is_new c = c.in_ok-insert.ensures.added ∙ ap not (among c.args.sense c.args.senses.now.keys)

pub returns-clause-added : goal.returns-clause-added
returns-clause-added c = inserted c.args.sense c.args.senses.now.keys _ c.in_ok-insert.ensures.keys
