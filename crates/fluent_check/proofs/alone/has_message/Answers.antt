use Rattle.std.proofs.Common.{◌∙◌}
use Rattle.fluent_semantics.specs.Arguments.{get}
use Rattle.fluent_check.specs.Bundles.{bundle_view}
use Rattle.fluent_check.proofs.AloneSides.{some_message}
use Rattle.fluent_check.proofs.alone.has_message.Goals as goal

pub returns : goal.returns
returns c = c.has_message.ensures ∙ some_message (get c.args.id.now (bundle_view c.args.side.now.bundle.now).ids)
