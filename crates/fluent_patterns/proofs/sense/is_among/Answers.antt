use Rattle.std.proofs.Common.{◌∙◌}
use Rattle.fluent_patterns.proofs.Senses.{among}
use Rattle.fluent_patterns.proofs.sense.is_among.Goals as goal

pub returns : goal.returns
returns c = c.contains.ensures ∙ among c.args.sense.now c.args.senses.now.keys
