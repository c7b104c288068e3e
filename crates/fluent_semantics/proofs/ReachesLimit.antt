-- A run up to the limit, beside the whole run.
use Rattle.std.proofs.Common.{◌≡◌, ℕ, zero, suc, List, [], ◌∷◌, ◌++◌, Bool, refl, sym, ap, subst, ◌∙◌, append_assoc, append-nil}
use Rattle.std.specs.Bool.{⊤}
use Rattle.fluent_ast.specs.Tree.{Text, Pattern}
use Rattle.fluent_ast.specs.Fallback.{in_braces}
use Rattle.fluent_semantics.specs.Errors.{Error, resolver_error, too_many_placeables}
use Rattle.fluent_semantics.specs.Bundle.{Bundle}
use Rattle.fluent_semantics.specs.Walk.{Environment, has_one, inner, deep}
use Rattle.fluent_semantics.specs.Meaning.{first_mark, last_mark, Budget, left, limit_reached, Ran, after_errors, after_text, closed, nothing_more, within_budget, opening, ran, run}
use Rattle.fluent_semantics.specs.Limit.{Until, passed, stopped, later, then, after, then_rest, in_marks, opening_until, until_limit, until, up_to_limit}
use Rattle.fluent_semantics.specs.Laws.{Stops}
use Rattle.fluent_semantics.proofs.Related.{Relation, elements_related}

abbrev pub passing : {A : Type 0} → A → List Error → ℕ → Ran A
passing x es n = record { value = x; errors = es; budget = left n }

-- what a run up to the limit says of a whole run: of its text, and of a value
abbrev pub Written : Until Text → Ran Text → Type 0
Written (passed x es n) r = r ≡ passing x es n
Written (stopped t es closing) r = Stops t es closing r

pub record Breaks {A : Type 0} (es : List Error) (r : Ran A) : Type 0 where
  pub budget : r.budget ≡ limit_reached
  pub more : List Error
  pub errors : r.errors ≡ es ++ resolver_error too_many_placeables ∷ more

abbrev pub Valued : {A : Type 0} → Until A → Ran A → Type 0
Valued (passed x es n) r = r ≡ passing x es n
Valued (stopped t es closing) r = Breaks es r

-- ---- an element, then the rest

errors_on : (es fs more : List Error) (r : List Error) → r ≡ fs ++ resolver_error too_many_placeables ∷ more → es ++ r ≡ (es ++ fs) ++ resolver_error too_many_placeables ∷ more
errors_on es fs more r h = ap (λ x. es ++ x) h ∙ sym (append_assoc es fs _)

errors_past : (es more more' : List Error) (r : List Error) → r ≡ es ++ resolver_error too_many_placeables ∷ more → r ++ more' ≡ es ++ resolver_error too_many_placeables ∷ (more ++ more')
errors_past es more more' r h = ap (λ x. x ++ more') h ∙ append_assoc es _ more'

text_on : (t u middle closing v : Text) → v ≡ u ++ (middle ++ closing) → t ++ v ≡ (t ++ u) ++ (middle ++ closing)
text_on t u middle closing v h = ap (λ x. t ++ x) h ∙ sym (append_assoc t u _)

rest_written : (t : Text) (es : List Error) (u : Until Text) (r : Ran Text) → Written u r → Written (later es (after t u)) (after_text (passing t es 0) r)
rest_written t es (passed x fs n) r h = ap (after_text (passing t es 0)) h
rest_written t es (stopped u fs closing) r h = record {
  budget = h.budget;
  more = h.more;
  errors = errors_on es fs h.more r.errors h.errors;
  middle = h.middle;
  text = text_on t u h.middle closing r.value h.text;
}

element_written : (u : Until Text) (rest : ℕ → Until Text) (r : Ran Text) (l : Budget → Ran Text) → Written u r → ((n : ℕ) → Written (rest n) (l (left n))) → l limit_reached ≡ nothing_more → Written (then_rest u rest) (after_text r (l r.budget))
element_written (passed x es n) rest r l h j e =
    subst (λ q. Written (later es (after x (rest n))) (after_text q (l q.budget))) (sym h) (rest_written x es (rest n) (l (left n)) (j n))
element_written (stopped t es closing) rest r l h j e =
    let nothing = ap l h.budget ∙ e in
    record {
      budget = ap (λ q. q.budget) nothing;
      more = h.more;
      errors = ap (λ q. r.errors ++ q.errors) nothing ∙ append-nil r.errors ∙ h.errors;
      middle = h.middle;
      text = ap (λ q. r.value ++ q.value) nothing ∙ append-nil r.value ∙ h.text;
    }

-- ---- a value, then what is made of it

value_text_later : (es : List Error) (u : Until Text) (r : Ran Text) → Written u r → Written (later es u) (after_errors es r)
value_text_later es (passed x fs n) r h = ap (after_errors es) h
value_text_later es (stopped t fs closing) r h = record { budget = h.budget; more = h.more; errors = errors_on es fs h.more r.errors h.errors; middle = h.middle; text = h.text }

value_later : {A : Type 0} (es : List Error) (u : Until A) (r : Ran A) → Valued u r → Valued (later es u) (after_errors es r)
value_later es (passed x fs n) r h = ap (after_errors es) h
value_later es (stopped t fs closing) r h = record { budget = h.budget; more = h.more; errors = errors_on es fs h.more r.errors h.errors }

bind_written : {A : Type 0} (u : Until A) (r : Ran A) (f : A → ℕ → Until Text) (g : A → Budget → Ran Text) → Valued u r → ((x : A) (n : ℕ) → Written (f x n) (g x (left n))) → ((x : A) → (g x limit_reached).budget ≡ limit_reached) → Written (then u f) (after_errors r.errors (g r.value r.budget))
bind_written (passed x es n) r f g h j s =
    subst (λ q. Written (later es (f x n)) (after_errors q.errors (g q.value q.budget))) (sym h) (value_text_later es (f x n) (g x (left n)) (j x n))
bind_written (stopped t es closing) r f g h j s = record {
  budget = ap (λ y. (g r.value y).budget) h.budget ∙ s r.value;
  more = h.more ++ (g r.value r.budget).errors;
  errors = errors_past es h.more (g r.value r.budget).errors r.errors h.errors;
  middle = (g r.value r.budget).value;
  text = sym (append-nil (g r.value r.budget).value);
}

bind_valued : {A B : Type 0} (u : Until A) (r : Ran A) (f : A → ℕ → Until B) (g : A → Budget → Ran B) → Valued u r → ((x : A) (n : ℕ) → Valued (f x n) (g x (left n))) → ((x : A) → (g x limit_reached).budget ≡ limit_reached) → Valued (then u f) (after_errors r.errors (g r.value r.budget))
bind_valued (passed x es n) r f g h j s =
    subst (λ q. Valued (later es (f x n)) (after_errors q.errors (g q.value q.budget))) (sym h) (value_later es (f x n) (g x (left n)) (j x n))
bind_valued (stopped t es closing) r f g h j s = record {
  budget = ap (λ y. (g r.value y).budget) h.budget ∙ s r.value;
  more = h.more ++ (g r.value r.budget).errors;
  errors = errors_past es h.more (g r.value r.budget).errors r.errors h.errors;
}

as_valued : (u : Until Text) (r : Ran Text) → Written u r → Valued u r
as_valued (passed x es n) r h = h
as_valued (stopped t es closing) r h = record { budget = h.budget; more = h.more; errors = h.errors }

-- ---- a placeable

regrouped : (first t middle closing fallback last : Text) → first ++ ((t ++ (middle ++ closing)) ++ (fallback ++ last)) ≡ (first ++ t) ++ (middle ++ (closing ++ (fallback ++ last)))
regrouped first t middle closing fallback last =
    ap (λ x. first ++ x) (append_assoc t (middle ++ closing) (fallback ++ last) ∙ ap (λ x. t ++ x) (append_assoc middle closing (fallback ++ last)))
    ∙ sym (append_assoc first t _)

closed_written : (marked : Bool) (fallback : Text) (u : Until Text) (r : Ran Text) → Written u r → Written (in_marks marked fallback u) (closed marked fallback r)
closed_written marked fallback (passed x es n) r h = ap (closed marked fallback) h
closed_written marked fallback (stopped t es closing) r h =
    let here = ap (λ b. closed marked fallback record { value = r.value; errors = r.errors; budget = b }) h.budget in
    record {
      budget = h.budget;
      more = h.more;
      errors = h.errors;
      middle = h.middle;
      text = ap (λ q. q.value) here ∙ ap (λ v. first_mark marked ++ (v ++ (in_braces fallback ++ last_mark marked))) h.text ∙ regrouped (first_mark marked) t h.middle closing (in_braces fallback) (last_mark marked);
    }

opens_written : (marked : Bool) (fallback : Text) (m : ℕ → Until Text) (k : Budget → Ran Text) → ((n : ℕ) → Written (m n) (k (left n))) → (n : ℕ) → Written (opening_until marked fallback m n) (opening marked fallback k (left n))
opens_written marked fallback m k h zero = record { budget = refl; more = []; errors = refl; middle = []; text = refl }
opens_written marked fallback m k h (suc n) = closed_written marked fallback (m n) (k (left n)) (h n)

-- ---- the two readings

abbrev stops_where : Relation until_limit within_budget
stops_where = record {
  At = λ m k. ((n : ℕ) → Written (m n) (k (left n))) × (k limit_reached ≡ nothing_more);
  Part = λ m k. (n : ℕ) → Written (m n) (k (left n));
  In = λ m k. ((n : ℕ) → Written (m n) (k (left n))) × ((k limit_reached).budget ≡ limit_reached);
  Gives = λ m k. ((n : ℕ) → Valued (m n) (k (left n))) × ((k limit_reached).budget ≡ limit_reached);
  ends = ((λ n. refl), refl);
  element = λ m k n l h j. ((λ x. element_written (m x) k (n (left x)) l (h x) j.0 j.1), refl);
  text = λ t n. refl;
  opens = λ marked t m k h. opens_written marked t m k h.0;
  enters = λ i m k h. (h.0, ap (λ r. r.budget) h.1);
  give = λ t. ((λ n. refl), refl);
  fails = λ e t i. ((λ n. refl), refl);
  bind = λ m k f g h j. ((λ n. bind_written (m n) (k (left n)) f g (h.0 n) (λ x. (j x).0) (λ x. (j x).1)), ap (λ y. (g (k limit_reached).value y).budget) h.1 ∙ (j (k limit_reached).value).1);
  give_value = λ x. ((λ n. refl), refl);
  bind_value = λ m k f g h j. ((λ n. bind_valued (m n) (k (left n)) f g (h.0 n) (λ x. (j x).0) (λ x. (j x).1)), ap (λ y. (g (k limit_reached).value y).budget) h.1 ∙ (j (k limit_reached).value).1);
  value_of = λ m k v h. ((λ n. bind_valued (m n) (k (left n)) (λ t. until_limit.give (v t)) (λ t. within_budget.give (v t)) (as_valued (m n) (k (left n)) (h.0 n)) (λ x i. refl) (λ x. refl)), h.1);
}

module _ {C : Type 0} (b : Bundle C) where
  deep_stops : (g : ℕ) (env : Environment C) (path : List Pattern) (p : Pattern) → stops_where.In (deep until_limit b g env path p) (deep within_budget b g env path p)
  deep_stops zero env path p = ((λ n. refl), refl)
  deep_stops (suc g) env path p =
      let h = elements_related until_limit within_budget stops_where b (deep until_limit b g) (deep within_budget b g) env (λ q. ⊤) (λ q. ⊤) (λ a id q e. tt) (λ a id q e. tt) (λ q p' u. tt) (λ env' path' q u k e. deep_stops g env' _ q) (inner path p) (has_one p) p tt in
      (h.0, ap (λ r. r.budget) h.1)

  -- a run beside what stands at its limit
  pub run_stops : (env : Environment C) (path : List Pattern) (p : Pattern) (n : ℕ) → Written (up_to_limit b env path p n) (run b env path p (left n))
  unfolding ran until
  run_stops env path p n = (deep_stops (suc n) env path p).0 n
