use Rattle.std.proofs.Common.{◌≡◌, ap, sym, ◌∙◌, ◌+◌, [], ◌++◌, append-nil, append_assoc, string_bytes}
use Rattle.fluent_ast.specs.View.{pattern_view}
use Rattle.fluent_bundle_entries.specs.Texts.{texts_of}
use Rattle.fluent_resolver_state.proofs.TextElements.{texts_from, text_next, placeable_next, no_texts_left}
use Rattle.fluent_resolver_state.specs.Facts.Views.{view_pattern, view_text_in, view_placeable_in}
use Rattle.fluent_resolver_state.proofs.texts.push_texts.Goals.{in-TextElement+in_ok-push_str-in-TextElement, in-Placeable}
use Rattle.fluent_resolver_state.proofs.texts.push_texts.Goals as goal

pub loop-element-init : goal.loop-element-init
loop-element-init c = record {
  pushed = [];
  so_far = sym (append-nil (string_bytes c.args.out.now));
  whole = ap (λ es. texts_from es 0) c.deref-element-items.ensures.value ∙ ap texts_of (sym (view_pattern c.args.pattern.now));
}

pub loop-element-preserved : goal.loop-element-preserved
loop-element-preserved c =
    let items = c.deref-element-items.result.now in
    let i = c.loop-element.element-index in
    let x = c.element-item.result in
    let h = c.loop-element.invariant in
    elim c.match-element.branch [
      | in-TextElement+in_ok-push_str-in-TextElement r ↦
          let t = r.in-TextElement.value.now in
          let next = text_next items i x t c.loop-element-test.true c.element-item.is (view_text_in x r.in-TextElement.value r.in-TextElement.is) in
          rw r.out-is (record {
            pushed = h.pushed ++ t;
            so_far = r.in_ok-push_str-in-TextElement.ensures.bytes ∙ ap (λ u. u ++ t) h.so_far ∙ append_assoc _ h.pushed t;
            whole = append_assoc h.pushed t (texts_from items (i + 1)) ∙ ap (λ u. h.pushed ++ u) next ∙ h.whole;
          })
      | in-Placeable r ↦
          let next = placeable_next items i x _ c.loop-element-test.true c.element-item.is (view_placeable_in x r.in-Placeable.expression r.in-Placeable.is) in
          rw r.out-is (record { pushed = h.pushed; so_far = h.so_far; whole = ap (λ u. h.pushed ++ u) next ∙ h.whole })
    ]

-- all of them were added
added : (c : goal.After-loop-element) → texts_from c.deref-element-items.result.now c.loop-element.element-index ≡ [] → c.loop-element.invariant.pushed ≡ texts_of (pattern_view c.args.pattern.now)
added c none = let h = c.loop-element.invariant in sym (append-nil h.pushed) ∙ ap (λ u. h.pushed ++ u) (sym none) ∙ h.whole

pub returns-clause-whole : goal.returns-clause-whole
returns-clause-whole c =
    c.loop-element.invariant.so_far ∙ ap (λ u. string_bytes c.args.out.now ++ u) (added c (no_texts_left c.deref-element-items.result.now c.loop-element.element-index c.loop-element-test.false))

pub returns-clause-prefix : goal.returns-clause-prefix
returns-clause-prefix c =
    let h = c.loop-element.invariant in
    (h.pushed, texts_from c.deref-element-items.result.now c.loop-element.element-index, sym h.whole, h.so_far)
