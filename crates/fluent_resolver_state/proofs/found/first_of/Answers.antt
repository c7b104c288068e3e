use Rattle.std.proofs.Common.{rules, ap, sym, ◌∙◌, slice_get, drop}
use Rattle.std.proofs.lemmas.List.{drop-drop}
use Rattle.fluent_ast.specs.View.{pattern_view}
use Rattle.fluent_resolver_state.proofs.Kept.{first_after, borrowed_from, borrowed_none, not_named, pattern_at}
use Rattle.fluent_resolver_state.proofs.found.first_of.Goals as goal

pub returns-then-eq-clause-led : goal.returns-then-eq-clause-led
returns-then-eq-clause-led c = λ number table kept.
    let i = c.loop-attribute.attribute-index in
    let x = c.attribute-item.result in
    let here = ap (λ ls. slice_get ls 0) c.loop-attribute.invariant.kept ∙ first_after c.args.linked.now i in
    let one = pattern_at c.args.attributes.now i x c.loop-attribute-test.true c.attribute-item.is in
    c.of.ensures.stored number table (
      λ l at. kept.0 i (pattern_view x.value) l.now one (sym here ∙ borrowed_from c.first.result _ l c.first.ensures.value at),
      λ none. kept.1 i (pattern_view x.value) one (sym here ∙ borrowed_none c.first.result _ c.first.ensures.value none),
    )

pub loop-attribute-preserved : goal.loop-attribute-preserved
loop-attribute-preserved c = record {
  content = c.loop-attribute.invariant.content ∙ not_named c.args.name.now c.args.attributes.now c.loop-attribute.attribute-index c.attribute-item.result c.loop-attribute-test.true c.attribute-item.is c.eq.result (search (rules, c.eq.ensures)) c.if-eq.false;
  kept = c.after_first-kept.ensures ∙ ap (drop 1) c.loop-attribute.invariant.kept ∙ drop-drop 1 c.loop-attribute.attribute-index c.args.linked.now;
}
