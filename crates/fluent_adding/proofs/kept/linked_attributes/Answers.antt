use Rattle.std.proofs.Common.{◌∙◌, [], sym, subst, refl}
use Rattle.std.proofs.lemmas.List.{take_all}
use Rattle.fluent_bundle_entries.specs.KeptLinks.{AreKept, AreOf, patterns}
use Rattle.fluent_bundle_entries.specs.IdNumbers.{numbers, table}
use Rattle.fluent_adding.proofs.Linking.{all_kept, all_texts, grown_twice, grows_twice, keeps_twice, one_linked, texts_kept}
use Rattle.fluent_adding.proofs.kept.linked_attributes.Goals as goal

pub loop-attribute-init : goal.loop-attribute-init
loop-attribute-init g c =
    let first = c.args.known.now in
    record {
      linked = subst (AreOf (numbers first) (table first) []) (sym c.in_ok-list.ensures.items) tt;
      grown = (λ id n h. h, λ n p h. h);
      same = λ answer. refl;
    }

pub loop-attribute-preserved : goal.loop-attribute-preserved
loop-attribute-preserved g c =
    let mid = c.loop-attribute.known in
    let last = c.link.new.self in
    let before = c.loop-attribute.invariant.grown in
    let step = c.in_ok-linked.ensures.grown in
    record {
      linked = one_linked (numbers mid) (numbers last) (table mid) (table last) step.0 step.1
          c.args.attributes.now c.loop-attribute.attribute-index _ c.attribute-item.result _ _ c.in_ok-linked.linked c.loop-attribute-test.true c.attribute-item.is
          c.in_ok-linked.ensures.linked c.in_ok-push.ensures.items c.loop-attribute.invariant.linked;
      grown = (keeps_twice _ (numbers mid) (numbers last) before.0 step.0, grows_twice _ (table mid) (table last) before.1 step.1);
      same = λ answer. c.in_ok-linked.ensures.same answer ∙ c.loop-attribute.invariant.same answer;
    }

pub returns-then-are_texts-clause-linked : goal.returns-then-are_texts-clause-linked
returns-then-are_texts-clause-linked g c =
    let n = numbers c.args.known.now in
    let t = table c.args.known.now in
    let as' = c.args.attributes.now in
    subst (AreKept n t (patterns as')) (sym c.new.ensures.items) (texts_kept n t (patterns as') (sym (all_texts as') ∙ (sym c.are_texts.ensures ∙ c.if-are_texts.true)))

pub returns-clause-linked : goal.returns-clause-linked
returns-clause-linked g c =
    let n = numbers c.loop-attribute.known in
    let t = table c.loop-attribute.known in
    all_kept n t (patterns c.args.attributes.now) c.loop-attribute.list.items
    (subst (λ xs. AreOf n t (patterns xs) c.loop-attribute.list.items) (take_all c.loop-attribute.attribute-index c.args.attributes.now c.loop-attribute-test.false) c.loop-attribute.invariant.linked)

pub returns-in_err-linked-clause-grown : goal.returns-in_err-linked-clause-grown
returns-in_err-linked-clause-grown g c = grown_twice c.args.known.now c.loop-attribute.known c.link.new.self c.loop-attribute.invariant.grown c.link.ensures.grown

pub returns-in_err-linked-clause-same : goal.returns-in_err-linked-clause-same
returns-in_err-linked-clause-same g c = λ answer. c.link.ensures.same answer ∙ c.loop-attribute.invariant.same answer

pub returns-in_err-push-clause-grown : goal.returns-in_err-push-clause-grown
returns-in_err-push-clause-grown g c = grown_twice c.args.known.now c.loop-attribute.known c.link.new.self c.loop-attribute.invariant.grown c.link.ensures.grown

pub returns-in_err-push-clause-same : goal.returns-in_err-push-clause-same
returns-in_err-push-clause-same g c = λ answer. c.link.ensures.same answer ∙ c.loop-attribute.invariant.same answer
