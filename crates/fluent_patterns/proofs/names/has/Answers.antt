use Rattle.std.proofs.Common.{◌∙◌}
use Rattle.fluent_patterns.proofs.Inserted.{any_of_texts}
use Rattle.fluent_patterns.proofs.names.has.Goals as goal

pub returns : goal.returns
returns c = c.contains.ensures ∙ any_of_texts c.args.name.now c.args.names.now.keys
