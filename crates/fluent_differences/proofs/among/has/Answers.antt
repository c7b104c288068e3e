use Rattle.std.proofs.Common.{◌∙◌}
use Rattle.fluent_differences.proofs.Naming.{any_text}
use Rattle.fluent_differences.proofs.among.has.Goals as goal

pub returns : goal.returns
returns c = c.contains.ensures ∙ any_text c.args.name.now c.args.names.now.keys
