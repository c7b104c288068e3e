use Rattle.fluent_bundle.specs.BundleView.{bundle_parts}
use Rattle.fluent_bundle.proofs.bundle.FluentBundle.new.Goals as goal

pub returns-clause-empty : goal.returns-clause-empty
unfolding bundle_parts
returns-clause-empty g c = rw (c.new.ensures g.F.FluentFunction.answer)
