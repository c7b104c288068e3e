use Rattle.std.proofs.Common.{◌≡◌, ◌∙◌, ap, subst, take}
use Rattle.std.proofs.lemmas.List.{take_all}
use Rattle.fluent_places.specs.Asked.{texts}
use Rattle.fluent_places.specs.Inside.Reached.{AddsNames}
use Rattle.fluent_places.proofs.Gathering.{added_more, added_none}
use Rattle.fluent_places.proofs.asking.add_names.Goals as goal

pub loop-name-init : goal.loop-name-init
loop-name-init c = added_none (texts c.args.names.now.keys)

pub loop-name-preserved : goal.loop-name-preserved
loop-name-preserved c = added_more c.as_slice-name-items.result.now c.loop-name.name-index _ _ _ _ c.loop-name-test.true c.loop-name.invariant c.in_ok-add_name.ensures

pub returns : goal.returns
returns c =
    let items = c.as_slice-name-items.result.now in
    let all : texts (take c.loop-name.name-index items) ≡ texts c.args.known.now.keys = ap texts (take_all c.loop-name.name-index items c.loop-name-test.false ∙ c.as_slice-name-items.ensures.keys) in
    subst (λ l. AddsNames l (texts c.args.names.now.keys) (texts c.loop-name.names.keys)) all c.loop-name.invariant
