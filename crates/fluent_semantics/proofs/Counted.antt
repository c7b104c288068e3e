-- How deep references are followed makes no difference to the counts of a run, once it is more than the budget.
use Rattle.std.proofs.Common.{◌≡◌, ℕ, zero, suc, ◌+◌, ◌≤◌, ◌<◌, max, List, [], Bool, length, refl, sym, ap, ◌∙◌, arith}
use Rattle.std.specs.Bool.{⊤}
use Rattle.fluent_ast.specs.Tree.{Text, Pattern}
use Rattle.fluent_semantics.specs.Bundle.{Bundle}
use Rattle.fluent_semantics.specs.Walk.{Environment, has_one, inner, whole, deep}
use Rattle.fluent_semantics.specs.Meaning.{Budget, left, limit_reached, at_most, after_errors, after_text, closed}
use Rattle.fluent_semantics.specs.Work.{Worked, together, work_element, work_opens, with_work, worked, work}
use Rattle.fluent_semantics.proofs.Related.{Relation, elements_related}

abbrev Alike : ℕ → {A : Type 0} → (Budget → Worked A) → (Budget → Worked A) → Type 0
Alike n m k = (b : Budget) → at_most b < n → (m b ≡ k b) × (at_most (m b).ran.budget ≤ at_most b)

opens_alike : (n : ℕ) (marked : Bool) (t : Text) (m k : Budget → Worked Text) → Alike n m k → Alike (suc n) (work_opens marked t m) (work_opens marked t k)
opens_alike n marked t m k h (left zero) u = (refl, omega arith)
opens_alike n marked t m k h (left (suc b)) u =
    let here = h (left b) (omega (arith, u)) in
    (ap (λ (w : Worked Text). record w { ran = closed marked t w.ran; opened = w.opened + 1 }) here.0, omega (arith, here.1))
opens_alike n marked t m k h limit_reached u = (refl, omega arith)

element_alike : (n : ℕ) (m k m' k' : Budget → Worked Text) → Alike n m m' → Alike n k k' → Alike n (work_element m k) (work_element m' k')
element_alike n m k m' k' h j (left b) u =
    let here = h (left b) u in
    let then = j (m (left b)).ran.budget (omega (arith, u, here.1)) in
    (ap (λ v. together (m (left b)) v (after_text (m (left b)).ran v.ran)) then.0 ∙ ap (λ w. together w (k' w.ran.budget) (after_text w.ran (k' w.ran.budget).ran)) here.0, omega (arith, here.1, then.1))
element_alike n m k m' k' h j limit_reached u = (refl, omega arith)

bind_alike : (n : ℕ) {A B : Type 0} (m k : Budget → Worked A) (f g : A → Budget → Worked B) → Alike n m k → ((x : A) → Alike n (f x) (g x)) → Alike n (with_work.bind m f) (with_work.bind k g)
bind_alike n m k f g h j b u =
    let here = h b u in
    let then = j (m b).ran.value (m b).ran.budget (omega (arith, u, here.1)) in
    (ap (λ v. together (m b) v (after_errors (m b).ran.errors v.ran)) then.0 ∙ ap (λ w. together w (g w.ran.value w.ran.budget) (after_errors w.ran.errors (g w.ran.value w.ran.budget).ran)) here.0, omega (arith, here.1, then.1))

enters_alike : (n i : ℕ) (m k : Budget → Worked Text) → Alike n m k → Alike n (with_work.enters i m) (with_work.enters i k)
enters_alike n i m k h b u = (ap (λ (w : Worked Text). record w { longest = max i w.longest; entered = w.entered + 1 }) (h b u).0, (h b u).1)

gives_alike : (n : ℕ) {A : Type 0} (x : A) → Alike n (with_work.give x) (with_work.give x)
gives_alike n x b u = (refl, omega arith)

abbrev alike : (n : ℕ) → Relation with_work with_work
alike n = record {
  At = Alike (suc n);
  Part = Alike (suc n);
  In = Alike n;
  Gives = Alike n;
  ends = gives_alike (suc n) [];
  element = λ m k m' k'. element_alike (suc n) m k m' k';
  text = λ t. gives_alike (suc n) t;
  opens = opens_alike n;
  enters = λ i m k h. enters_alike n i m k (λ b u. h b (omega (arith, u)));
  give = λ t. gives_alike n t;
  fails = λ e t i b u. (refl, omega arith);
  bind = λ m k f g. bind_alike n m k f g;
  give_value = λ x. gives_alike n x;
  bind_value = λ m k f g. bind_alike n m k f g;
  value_of = λ m k v h. bind_alike n m k (λ t. with_work.give (v t)) (λ t. with_work.give (v t)) h (λ t. gives_alike n (v t));
}

module _ {C : Type 0} (b : Bundle C) where
  whole_alike : (n : ℕ) (f g : Environment C → List Pattern → Pattern → Budget → Worked Text) → ((env : Environment C) (path : List Pattern) (p : Pattern) → Alike n (f env path p) (g env path p)) → (env : Environment C) (path : List Pattern) (p : Pattern) → Alike (suc n) (whole with_work b f env path p) (whole with_work b g env path p)
  whole_alike n f g h env path p =
      enters_alike (suc n) (length (inner path p)) _ _
      (elements_related with_work with_work (alike n) b f g env (λ q. ⊤) (λ q. ⊤) (λ a id q e. tt) (λ a id q e. tt) (λ q p' u. tt) (λ env' path' q u k e. h env' _ q) (inner path p) (has_one p) p tt)

  deep_alike : (f g : ℕ) → f ≤ g → (env : Environment C) (path : List Pattern) (p : Pattern) → Alike f (deep with_work b f env path p) (deep with_work b g env path p)
  deep_alike zero g h env path p budget u = absurd (omega (arith, u))
  deep_alike (suc f) zero h env path p budget u = absurd (omega (arith, h))
  deep_alike (suc f) (suc g) h env path p budget u = whole_alike f _ _ (deep_alike f g (omega (arith, h))) env path p budget u

  work_alike : (n : ℕ) (env : Environment C) (path : List Pattern) (p : Pattern) → Alike n (deep with_work b n env path p) (work b env path p)
  unfolding worked
  work_alike n env path p budget u =
      (sym (deep_alike (suc (at_most budget)) n (omega (arith, u)) env path p budget (omega arith)).0, (deep_alike n n (omega arith) env path p budget u).1)

  -- the counts of a pattern, by those of what it refers to
  pub work_step : (env : Environment C) (path : List Pattern) (p : Pattern) (budget : Budget) → work b env path p budget ≡ whole with_work b (work b) env path p budget
  unfolding worked
  work_step env path p budget = (whole_alike (at_most budget) _ _ (work_alike (at_most budget)) env path p budget (omega arith)).0
