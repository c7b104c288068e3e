use Rattle.fluent_bundle.specs.Calls.{asks}
use Rattle.fluent_end_to_end_laws.proofs.Steps.{made_after}
use Rattle.fluent_end_to_end_laws.proofs.bundle_over.Goals as goal

pub returns : goal.returns
returns g c =
    made_after (asks g.F.FluentFunction.answer g.G.FluentFormatter.formatted g.T.Transform.changed) _ _ _ _ _ _ _
    c.in_ok-make_all.ensures.ok.meaning
    c.new-bundle.ensures.holds.1
    c.new-bundle.ensures.empty
    (c.in_ok-calls.ensures c.args.intls)
