use Rattle.std.proofs.Common.{◌≡◌, ap, filter, map, ◌∙◌}
use Rattle.std.proofs.lemmas.List.{take_all}
use Rattle.fluent_ast.specs.View.{pattern_view}
use Rattle.fluent_places.specs.Needs.{needs}
use Rattle.fluent_places.specs.NeedsView.{need_view, needs_view}
use Rattle.fluent_differences.specs.Compared.{is_reference}
use Rattle.fluent_differences.proofs.Naming.{kept_more}
use Rattle.fluent_differences.proofs.compared.references_of.Goals as goal

pub loop-need-preserved : goal.loop-need-preserved
loop-need-preserved c = kept_more c.deref-need-items.result.now c.loop-need.need-index c.need-item.result (needs_view c.loop-need.list) (needs_view c.add_reference.new.list) c.loop-need-test.true c.need-item.is c.loop-need.invariant c.in_ok-add_reference.ensures

pub returns : goal.returns
returns c =
    let items = c.deref-need-items.result.now in
    let same : map need_view items ≡ needs (pattern_view c.args.pattern.now) = ap (λ l. map need_view l) c.deref-need-items.ensures.value ∙ c.in_ok-all.ensures in
    c.loop-need.invariant ∙ ap (λ l. filter is_reference l) (ap (λ l. map need_view l) (take_all c.loop-need.need-index items c.loop-need-test.false) ∙ same)
