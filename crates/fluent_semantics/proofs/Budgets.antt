-- How deep references are followed makes no difference to a run, once it is more than the budget.
use Rattle.std.proofs.Common.{◌≡◌, ℕ, zero, suc, ◌≤◌, ◌<◌, List, [], Bool, refl, sym, ap, ◌∙◌, arith}
use Rattle.std.specs.Bool.{⊤}
use Rattle.fluent_ast.specs.Tree.{Text, Pattern, nothing, more}
use Rattle.fluent_semantics.specs.Bundle.{Bundle}
use Rattle.fluent_semantics.specs.Walk.{Environment, elements, has_one, inner, whole, deep}
use Rattle.fluent_semantics.specs.Meaning.{nothing_more, at_most, Budget, left, limit_reached, Ran, after_errors, after_text, closed, within_budget, opening, unless_limit_reached, ran, run}
use Rattle.fluent_semantics.proofs.Related.{Relation, elements_related}

-- the budget stands below n, or the limit is reached
abbrev pub Under : ℕ → Budget → Type 0
Under n (left m) = m < n
Under n limit_reached = ⊤

abbrev pub Falls : Budget → Budget → Type 0
Falls (left m) (left k) = k ≤ m
Falls (left m) limit_reached = ⊤
Falls limit_reached (left k) = ⊥
Falls limit_reached limit_reached = ⊤

falls_same : (b : Budget) → Falls b b
falls_same (left n) = omega arith
falls_same limit_reached = tt

falls_on : (a b c : Budget) → Falls a b → Falls b c → Falls a c
falls_on (left m) (left n) (left k) h j = omega arith
falls_on (left m) (left n) limit_reached h j = tt
falls_on (left m) limit_reached (left k) h j = absurd j
falls_on (left m) limit_reached limit_reached h j = tt
falls_on limit_reached (left n) c h j = absurd h
falls_on limit_reached limit_reached (left k) h j = absurd j
falls_on limit_reached limit_reached limit_reached h j = tt

falls_more : (n : ℕ) (b : Budget) → Falls (left n) b → Falls (left (suc n)) b
falls_more n (left k) h = omega arith
falls_more n limit_reached h = tt

under_fallen : (n : ℕ) (a b : Budget) → Under n a → Falls a b → Under n b
under_fallen n (left m) (left k) h j = omega arith
under_fallen n (left m) limit_reached h j = tt
under_fallen n limit_reached (left k) h j = absurd j
under_fallen n limit_reached limit_reached h j = tt

under_more : (n : ℕ) (b : Budget) → Under n b → Under (suc n) b
under_more n (left m) h = omega arith
under_more n limit_reached h = tt

abbrev pub Alike : ℕ → {A : Type 0} → (Budget → Ran A) → (Budget → Ran A) → Type 0
Alike n m k = (b : Budget) → Under n b → (m b ≡ k b) × Falls b (m b).budget

opens_alike : (n : ℕ) (marked : Bool) (t : Text) (m k : Budget → Ran Text) → Alike n m k → Alike (suc n) (opening marked t m) (opening marked t k)
opens_alike n marked t m k h (left zero) u = (refl, tt)
opens_alike n marked t m k h (left (suc b)) u = let here = h (left b) (omega arith) in (ap (closed marked t) here.0, falls_more b (m (left b)).budget here.1)
opens_alike n marked t m k h limit_reached u = (refl, tt)

element_alike : (n : ℕ) (m k m' k' : Budget → Ran Text) → Alike n m m' → Alike n k k' → Alike n (unless_limit_reached m k) (unless_limit_reached m' k')
element_alike n m k m' k' h j (left b) u =
    let here = h (left b) u in
    let then = j (m (left b)).budget (under_fallen n (left b) (m (left b)).budget u here.1) in
    (ap (after_text (m (left b))) then.0 ∙ ap (λ r. after_text r (k' r.budget)) here.0, falls_on (left b) (m (left b)).budget _ here.1 then.1)
element_alike n m k m' k' h j limit_reached u = (refl, tt)

bind_alike : (n : ℕ) {A B : Type 0} (m k : Budget → Ran A) (f g : A → Budget → Ran B) → Alike n m k → ((x : A) → Alike n (f x) (g x)) → Alike n (within_budget.bind m f) (within_budget.bind k g)
bind_alike n m k f g h j b u =
    let here = h b u in
    let then = j (m b).value (m b).budget (under_fallen n b (m b).budget u here.1) in
    (ap (after_errors (m b).errors) then.0 ∙ ap (λ r. after_errors r.errors (g r.value r.budget)) here.0, falls_on b (m b).budget _ here.1 then.1)

abbrev alike : (n : ℕ) → Relation within_budget within_budget
alike n = record {
  At = Alike (suc n);
  Part = Alike (suc n);
  In = Alike n;
  Gives = Alike n;
  ends = λ b u. (refl, falls_same b);
  element = λ m k m' k'. element_alike (suc n) m k m' k';
  text = λ t b u. (refl, falls_same b);
  opens = opens_alike n;
  enters = λ k m m' h b u. h b (under_more n b u);
  give = λ t b u. (refl, falls_same b);
  fails = λ e x i b u. (refl, falls_same b);
  bind = λ m k f g. bind_alike n m k f g;
  give_value = λ x b u. (refl, falls_same b);
  bind_value = λ m k f g. bind_alike n m k f g;
  value_of = λ m k v h. bind_alike n m k (λ t. within_budget.give (v t)) (λ t. within_budget.give (v t)) h (λ t b u. (refl, falls_same b));
}

module _ {C : Type 0} (b : Bundle C) where
  whole_alike : (n : ℕ) (f g : Environment C → List Pattern → Pattern → Budget → Ran Text) → ((env : Environment C) (path : List Pattern) (p : Pattern) → Alike n (f env path p) (g env path p)) → (env : Environment C) (path : List Pattern) (p : Pattern) → Alike (suc n) (whole within_budget b f env path p) (whole within_budget b g env path p)
  whole_alike n f g h env path p =
      elements_related within_budget within_budget (alike n) b f g env (λ q. ⊤) (λ q. ⊤) (λ a id q e. tt) (λ a id q e. tt) (λ q p' u. tt) (λ env' path' q u k e. h env' _ q) (inner path p) (has_one p) p tt

  -- a pattern past the limit gives nothing but its end
  whole_limit_reached : (f : Environment C → List Pattern → Pattern → Budget → Ran Text) (env : Environment C) (path : List Pattern) (p : Pattern) → whole within_budget b f env path p limit_reached ≡ record { value = []; errors = []; budget = limit_reached }
  unfolding elements
  whole_limit_reached f env path nothing = refl
  whole_limit_reached f env path (more e p) = refl

  pub deep_limit_reached : (g : ℕ) (env : Environment C) (path : List Pattern) (p : Pattern) → deep within_budget b g env path p limit_reached ≡ record { value = []; errors = []; budget = limit_reached }
  deep_limit_reached zero env path p = refl
  deep_limit_reached (suc g) env path p = whole_limit_reached (deep within_budget b g) env path p

  pub deep_alike : (f g : ℕ) → f ≤ g → (env : Environment C) (path : List Pattern) (p : Pattern) → Alike f (deep within_budget b f env path p) (deep within_budget b g env path p)
  deep_alike zero g h env path p (left m) u = absurd (omega arith)
  deep_alike zero g h env path p limit_reached u = (sym (deep_limit_reached g env path p), tt)
  deep_alike (suc f) zero h env path p budget u = absurd (omega arith)
  deep_alike (suc f) (suc g) h env path p budget u = whole_alike f _ _ (deep_alike f g (omega arith)) env path p budget u

  run_alike : (n : ℕ) (env : Environment C) (path : List Pattern) (p : Pattern) → Alike n (deep within_budget b n env path p) (run b env path p)
  unfolding ran
  run_alike n env path p (left m) u =
      (sym (deep_alike (suc m) n (omega arith) env path p (left m) (omega arith)).0, (deep_alike n n (omega arith) env path p (left m) u).1)
  run_alike n env path p limit_reached u = (deep_limit_reached n env path p, (deep_alike n n (omega arith) env path p limit_reached u).1)

  -- what a pattern means within a budget, by what its references mean within theirs
  pub run_step : (env : Environment C) (path : List Pattern) (p : Pattern) (budget : Budget) → run b env path p budget ≡ whole within_budget b (run b) env path p budget
  unfolding ran
  run_step env path p (left n) = (whole_alike n _ _ (run_alike n) env path p (left n) (omega arith)).0
  run_step env path p limit_reached = sym (whole_limit_reached (run b) env path p)

  -- a run never adds to the budget
  pub run_falls : (env : Environment C) (path : List Pattern) (p : Pattern) (budget : Budget) → Falls budget (run b env path p budget).budget
  unfolding ran
  run_falls env path p (left n) = (deep_alike (suc n) (suc n) (omega arith) env path p (left n) (omega arith)).1
  run_falls env path p limit_reached = tt

falls_at_most : (a b : Budget) → Falls a b → at_most b ≤ at_most a
falls_at_most (left n) (left k) h = h
falls_at_most (left n) limit_reached h = omega arith
falls_at_most limit_reached (left k) h = absurd h
falls_at_most limit_reached limit_reached h = omega arith

module _ {C : Type 0} (b : Bundle C) where
  pub run_less : (env : Environment C) (path : List Pattern) (p : Pattern) (budget : Budget) → at_most (run b env path p budget).budget ≤ at_most budget
  run_less env path p budget = falls_at_most budget _ (run_falls b env path p budget)

  pub run_limit_reached : (env : Environment C) (path : List Pattern) (p : Pattern) → run b env path p limit_reached ≡ nothing_more
  unfolding ran
  run_limit_reached env path p = deep_limit_reached b 0 env path p
