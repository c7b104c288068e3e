use Rattle.std.proofs.Common.{ap, sym, ◌∙◌}
use Rattle.std.specs.Prelude.{slice_get}
use Rattle.std.specs.Option.{option_map}
use Rattle.fluent_fallback.specs.Chain.{in_order}
use Rattle.fluent_fallback.proofs.First.{lent_at, referred_at}
use Rattle.fluent_fallback.proofs.chain.Chain.bundle_at.Goals as goal

pub returns-in_err-get-in-Refs : goal.returns-in_err-get-in-Refs
returns-in_err-get-in-Refs g c =
    ap (option_map (λ b. b.now)) c.from_residual.ensures ∙ (ap (option_map (λ r. r.now.0.now)) (sym c.in_err-get-in-Refs.was) ∙ (referred_at c.in-Refs.refs.now c.args.index c.get.result c.get.ensures.lookup ∙ ap (λ bs. slice_get (in_order bs) c.args.index) (sym c.in-Refs.is)))

pub returns-in_ok-get-in-Refs : goal.returns-in_ok-get-in-Refs
returns-in_ok-get-in-Refs g c =
    ap (option_map (λ r. r.now.0.now)) (sym c.in_ok-get-in-Refs.was) ∙ (referred_at c.in-Refs.refs.now c.args.index c.get.result c.get.ensures.lookup ∙ ap (λ bs. slice_get (in_order bs) c.args.index) (sym c.in-Refs.is))

pub returns-in-List : goal.returns-in-List
returns-in-List g c =
    lent_at c.in-List.bundles.now c.args.index c.get-in-List.result c.get-in-List.ensures.lookup ∙ ap (λ bs. slice_get (in_order bs) c.args.index) (sym c.in-List.is)
