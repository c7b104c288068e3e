use Rattle.std.proofs.Common.{rules, refl, ap, sym, ◌∙◌, ◌+◌, [], Ok}
use Rattle.fluent_values.specs.Sinks.{halt_of, without_error, writer}
use Rattle.fluent_bundle_entries.specs.Texts.{texts_of}
use Rattle.fluent_values.specs.Facts.Took.{appends_none, took_by, took_on, took_same, took_stops, took_whole}
use Rattle.fluent_resolver_state.proofs.TextElements.{texts_from, text_next, placeable_next, no_texts_left}
use Rattle.fluent_resolver_state.specs.Facts.Views.{view_pattern, view_text_in, view_placeable_in}
use Rattle.fluent_resolver_state.proofs.texts.write_texts.Goals.{in-TextElement+in_ok-put-in-TextElement, in-Placeable}
use Rattle.fluent_resolver_state.proofs.texts.write_texts.Goals as goal

pub loop-element-init : goal.loop-element-init
loop-element-init g c =
    let whole = ap (λ es. texts_from es 0) c.deref-element-items.ensures.value ∙ ap texts_of (sym (view_pattern c.args.pattern.now)) in
    record { taking = λ q after k. took_same whole k }

pub loop-element-preserved : goal.loop-element-preserved
loop-element-preserved g c =
    let items = c.deref-element-items.result.now in
    let i = c.loop-element.element-index in
    let x = c.element-item.result in
    let so_far = c.loop-element.invariant in
    elim c.match-element.branch [
      | in-TextElement+in_ok-put-in-TextElement r ↦
          let next = text_next items i x r.in-TextElement.value.now c.loop-element-test.true c.element-item.is (view_text_in x r.in-TextElement.value r.in-TextElement.is) in
          let took = took_by r.put.result r.as_bytes.result.now (writer g.W.Write.contents c.loop-element.w) (writer g.W.Write.contents r.put.new.w) r.put.ensures.whole r.put.ensures.prefix r.put.ensures.fault refl refl in
          rw r.w-is (record {
            taking = λ q after k. so_far.taking q after (took_same next (took_on (ap without_error r.in_ok-put-in-TextElement.was) (took_same r.as_bytes.ensures.value took) k));
          })
      | in-Placeable r ↦
          let next = placeable_next items i x _ c.loop-element-test.true c.element-item.is (view_placeable_in x r.in-Placeable.expression r.in-Placeable.is) in
          rw r.w-is (record { taking = λ q after k. so_far.taking q after (took_same next k) })
    ]

pub returns-in_err-put-in-TextElement-clause-took : goal.returns-in_err-put-in-TextElement-clause-took
returns-in_err-put-in-TextElement-clause-took g c =
    let items = c.deref-element-items.result.now in
    let i = c.loop-element.element-index in
    let x = c.element-item.result in
    let next = text_next items i x c.in-TextElement.value.now c.loop-element-test.true c.element-item.is (view_text_in x c.in-TextElement.value c.in-TextElement.is) in
    let took = took_by c.put.result c.as_bytes.result.now (writer g.W.Write.contents c.loop-element.w) (writer g.W.Write.contents c.put.new.w) c.put.ensures.whole c.put.ensures.prefix c.put.ensures.fault refl refl in
    c.loop-element.invariant.taking _ _
    (took_same next (took_stops {e = halt_of c.in_err-put-in-TextElement.field-0.0} (texts_from items (i + 1)) (ap without_error c.in_err-put-in-TextElement.was) (search (rules, c.from_residual.ensures)) (took_same c.as_bytes.ensures.value took)))

pub returns-clause-took : goal.returns-clause-took
returns-clause-took g c =
    let w = writer g.W.Write.contents c.loop-element.w in
    let none = no_texts_left c.deref-element-items.result.now c.loop-element.element-index c.loop-element-test.false in
    c.loop-element.invariant.taking (Ok tt) w (took_same (sym none) (took_whole [] w w (appends_none w.held) (refl, refl) refl refl))
