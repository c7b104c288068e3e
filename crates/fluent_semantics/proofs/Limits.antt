-- The substitution meaning beside a run up to the limit.
use Rattle.std.proofs.Common.{◌≡◌, ℕ, zero, suc, ◌+◌, ◌-◌, ◌≤◌, ◌<◌, ◌↔◌, List, [], ◌++◌, length, Bool, refl, sym, ap, subst, ◌∙◌, arith, append_assoc}
use Rattle.std.specs.Bool.{⊤}
use Rattle.fluent_ast.specs.Tree.{Text, Pattern}
use Rattle.fluent_semantics.specs.Errors.{Error}
use Rattle.fluent_semantics.specs.Bundle.{Bundle, stored}
use Rattle.fluent_semantics.specs.Walk.{Environment, has_one, inner, deep}
use Rattle.fluent_semantics.specs.Meaning.{first_mark, last_mark, Outcome, joined, by_substitution, substituted, meaning, left, limit_reached, Ran, run}
use Rattle.fluent_semantics.specs.Limit.{Until, passed, stopped, later, then, after, then_rest, in_marks, opening_until, until_limit, until, up_to_limit}
use Rattle.fluent_semantics.specs.Laws.{Begins, IsLimitOf}
use Rattle.fluent_semantics.proofs.Related.{Relation, elements_related}
use Rattle.fluent_semantics.proofs.Deeper.{settled}
use Rattle.fluent_semantics.proofs.ReachesLimit.{Written, run_stops, passing}

-- within the limit: what is left with what was opened is the budget
pub record Keeps {A : Type 0} (n : ℕ) (o : Outcome A) (x : A) (es : List Error) (k : ℕ) : Type 0 where
  pub total : k + o.opened ≡ n
  pub value : o.value ≡ x
  pub errors : o.errors ≡ es

-- beyond it
pub record Exceeds {A : Type 0} (n : ℕ) (o : Outcome A) (es : List Error) : Type 0 where
  pub more_opened : n < o.opened
  pub errors : Begins es o.errors

abbrev pub Written' : ℕ → Outcome Text → Until Text → Type 0
Written' n o (passed x es k) = Keeps n o x es k
Written' n o (stopped t es closing) = Exceeds n o es × Begins t o.value

abbrev pub Valued' : {A : Type 0} → ℕ → Outcome A → Until A → Type 0
Valued' n o (passed x es k) = Keeps n o x es k
Valued' n o (stopped t es closing) = Exceeds n o es

-- ---- lists that begin others

begins_after : {A : Type 0} (xs ys zs : List A) → Begins ys zs → Begins (xs ++ ys) (xs ++ zs)
begins_after xs ys zs h = (h.0, ap (λ l. xs ++ l) h.1 ∙ sym (append_assoc xs ys h.0))

begins_before : {A : Type 0} (xs ys zs : List A) → Begins xs ys → Begins xs (ys ++ zs)
begins_before xs ys zs h = (h.0 ++ zs, ap (λ l. l ++ zs) h.1 ∙ append_assoc xs h.0 zs)

-- ---- the steps

element_meets : (n : ℕ) (o rest : Outcome Text) (u : Until Text) (k : ℕ → Until Text) → Written' n o u → ((i : ℕ) → i ≤ n → Written' i rest (k i)) → Written' n (by_substitution.element o rest) (then_rest u k)
element_meets n o rest (passed x es i) k h j = by (k i) (j i (omega (arith, h.total)))
  where
    by : (u : Until Text) → Written' i rest u → Written' n (by_substitution.element o rest) (later es (after x u))
    by (passed y fs l) w = record {
      total = omega (arith, h.total, w.total);
      value = ap (λ v. v ++ rest.value) h.value ∙ ap (λ v. x ++ v) w.value;
      errors = ap (λ v. v ++ rest.errors) h.errors ∙ ap (λ v. es ++ v) w.errors;
    }
    by (stopped t fs closing) w = (
      record {
        more_opened = omega (arith, h.total, w.0.more_opened);
        errors = subst (λ v. Begins (es ++ fs) (v ++ rest.errors)) (sym h.errors) (begins_after es fs rest.errors w.0.errors);
      },
      subst (λ v. Begins (x ++ t) (v ++ rest.value)) (sym h.value) (begins_after x t rest.value w.1),
    )
element_meets n o rest (stopped t es closing) k h j = (
  record { more_opened = omega (arith, h.0.more_opened); errors = begins_before es o.errors rest.errors h.0.errors },
  begins_before t o.value rest.value h.1,
)

bind_meets : {A : Type 0} (n : ℕ) (o : Outcome A) (u : Until A) (f : A → Outcome Text) (g : A → ℕ → Until Text) → Valued' n o u → ((x : A) (i : ℕ) → i ≤ n → Written' i (f x) (g x i)) → Written' n (joined o (f o.value)) (then u g)
bind_meets n o (passed x es i) f g h j = subst (λ y. Written' n (joined o (f y)) (later es (g x i))) (sym h.value) (by (g x i) (j x i (omega (arith, h.total))))
  where
    by : (u : Until Text) → Written' i (f x) u → Written' n (joined o (f x)) (later es u)
    by (passed y fs l) w = record {
      total = omega (arith, h.total, w.total);
      value = w.value;
      errors = ap (λ v. v ++ (f x).errors) h.errors ∙ ap (λ v. es ++ v) w.errors;
    }
    by (stopped t fs closing) w = (
      record {
        more_opened = omega (arith, h.total, w.0.more_opened);
        errors = subst (λ v. Begins (es ++ fs) (v ++ (f x).errors)) (sym h.errors) (begins_after es fs (f x).errors w.0.errors);
      },
      w.1,
    )
bind_meets n o (stopped t es closing) f g h j = (
  record { more_opened = omega (arith, h.more_opened); errors = begins_before es o.errors (f o.value).errors h.errors },
  ((f o.value).value, refl),
)

value_meets : {A B : Type 0} (n : ℕ) (o : Outcome A) (u : Until A) (f : A → Outcome B) (g : A → ℕ → Until B) → Valued' n o u → ((x : A) (i : ℕ) → i ≤ n → Valued' i (f x) (g x i)) → Valued' n (joined o (f o.value)) (then u g)
value_meets {B = B} n o (passed x es i) f g h j = subst (λ y. Valued' n (joined o (f y)) (later es (g x i))) (sym h.value) (by (g x i) (j x i (omega (arith, h.total))))
  where
    by : (u : Until B) → Valued' i (f x) u → Valued' n (joined o (f x)) (later es u)
    by (passed y fs l) w = record {
      total = omega (arith, h.total, w.total);
      value = w.value;
      errors = ap (λ v. v ++ (f x).errors) h.errors ∙ ap (λ v. es ++ v) w.errors;
    }
    by (stopped t fs closing) w = record {
      more_opened = omega (arith, h.total, w.more_opened);
      errors = subst (λ v. Begins (es ++ fs) (v ++ (f x).errors)) (sym h.errors) (begins_after es fs (f x).errors w.errors);
    }
value_meets n o (stopped t es closing) f g h j = record { more_opened = omega (arith, h.more_opened); errors = begins_before es o.errors (f o.value).errors h.errors }

text_valued : (n : ℕ) (o : Outcome Text) (u : Until Text) → Written' n o u → Valued' n o u
text_valued n o (passed x es k) h = h
text_valued n o (stopped t es closing) h = h.0

marks_meet : (marked : Bool) (t : Text) (n : ℕ) (o : Outcome Text) (u : Until Text) → Written' n o u → Written' (suc n) (by_substitution.opens marked t o) (in_marks marked t u)
marks_meet marked t n o (passed x es k) h = record {
  total = omega (arith, h.total);
  value = ap (λ v. first_mark marked ++ (v ++ last_mark marked)) h.value;
  errors = h.errors;
}
marks_meet marked t n o (stopped u es closing) h = (
  record { more_opened = omega (arith, h.0.more_opened); errors = h.0.errors },
  begins_after (first_mark marked) u (o.value ++ last_mark marked) (begins_before u o.value (last_mark marked) h.1),
)

opens_meet : (bound : ℕ) (marked : Bool) (t : Text) (o : Outcome Text) (m : ℕ → Until Text) → ((n : ℕ) → n < bound → Written' n o (m n)) → (n : ℕ) → n < suc bound → Written' n (by_substitution.opens marked t o) (opening_until marked t m n)
opens_meet bound marked t o m h zero u = (record { more_opened = omega arith; errors = (o.errors, refl) }, (first_mark marked ++ (o.value ++ last_mark marked), refl))
opens_meet bound marked t o m h (suc n) u = marks_meet marked t n o (m n) (h n (omega arith))

none_opened : {A : Type 0} (n : ℕ) (x : A) (es : List Error) → Keeps n (record { value = x; errors = es; opened = 0 }) x es n
none_opened n x es = record { total = omega arith; value = refl; errors = refl }

abbrev agrees : (bound : ℕ) → Relation by_substitution until_limit
agrees bound = record {
  At = λ o m. (n : ℕ) → n < suc bound → Written' n o (m n);
  Part = λ o m. (n : ℕ) → n < suc bound → Written' n o (m n);
  In = λ o m. (n : ℕ) → n < bound → Written' n o (m n);
  Gives = λ o m. (n : ℕ) → n < bound → Valued' n o (m n);
  ends = λ n u. none_opened n [] [];
  element = λ o rest m k h j n u. element_meets n o rest (m n) k (h n u) (λ i l. j i (omega arith));
  text = λ t n u. none_opened n t [];
  opens = λ marked t o m h. opens_meet bound marked t o m h;
  enters = λ k o m h n u. h n (omega arith);
  give = λ t n u. none_opened n t [];
  fails = λ e t i n u. none_opened n t _;
  bind = λ o m f g h j n u. bind_meets n o (m n) f g (h n u) (λ x i l. j x i (omega arith));
  give_value = λ x n u. none_opened n x [];
  bind_value = λ o m f g h j n u. value_meets n o (m n) f g (h n u) (λ x i l. j x i (omega arith));
  value_of = λ o m v h n u. value_meets n o (m n) (λ t. by_substitution.give (v t)) (λ t. until_limit.give (v t)) (text_valued n o (m n) (h n u)) (λ t i l. none_opened i (v t) []);
}

module _ {C : Type 0} (b : Bundle C) where
  deep_agrees : (f g : ℕ) → g ≤ f → (env : Environment C) (path : List Pattern) (p : Pattern) → (agrees g).In (deep by_substitution b f env path p) (deep until_limit b g env path p)
  deep_agrees f zero h env path p n u = absurd (omega arith)
  deep_agrees zero (suc g) h env path p n u = absurd (omega arith)
  deep_agrees (suc f) (suc g) h env path p n u =
      elements_related by_substitution until_limit (agrees g) b (deep by_substitution b f) (deep until_limit b g) env (λ q. ⊤) (λ q. ⊤) (λ a id q e. tt) (λ a id q e. tt) (λ q p' w. tt) (λ env' path' q w k e. deep_agrees f g (omega arith) env' _ q) (inner path p) (has_one p) p tt n u

  pub meaning_meets : (env : Environment C) (path : List Pattern) (p : Pattern) (n : ℕ) → Written' n (meaning b env path p) (up_to_limit b env path p n)
  unfolding substituted until
  meaning_meets env path p n =
      subst (λ o. Written' n o (up_to_limit b env path p n)) (settled b (suc (n + length (stored b))) env path p (omega arith))
      (deep_agrees (suc (n + length (stored b))) (suc n) (omega arith) env path p n (omega arith))

-- ---- the laws

beyond : (n : ℕ) (o : Outcome Text) (u : Until Text) (r : Ran Text) → Written' n o u → Written u r → r.budget ≡ limit_reached ↔ n < o.opened
beyond n o (passed x es k) r h j = ((λ e. absurd (let wrong : left k ≡ limit_reached = ap (λ q. q.budget) (sym j) ∙ e in cc)), λ l. absurd (omega (arith, l, h.total)))
beyond n o (stopped t es closing) r h j = ((λ e. h.0.more_opened), λ l. j.budget)

within : (n : ℕ) (o : Outcome Text) (u : Until Text) (r : Ran Text) → Written' n o u → Written u r → o.opened ≤ n → r ≡ record { value = o.value; errors = o.errors; budget = left (n - o.opened) }
within n o (passed x es k) r h j l =
    let same : k ≡ n - o.opened = omega (arith, h.total) in
    j ∙ ap (λ v. passing v es k) (sym h.value) ∙ ap (λ fs. passing o.value fs k) (sym h.errors) ∙ ap (passing o.value o.errors) same
within n o (stopped t es closing) r h j l = absurd (omega (arith, h.0.more_opened))

limit_begins : (n : ℕ) (o : Outcome Text) (u : Until Text) (r : Ran Text) → Written' n o u → Written u r → n < o.opened → IsLimitOf u o r
limit_begins n o (passed x es k) r h j l = absurd (omega (arith, h.total))
limit_begins n o (stopped t es closing) r h j l = (h.1, h.0.errors, j)

module _ {C : Type 0} (b : Bundle C) (env : Environment C) (path : List Pattern) (p : Pattern) (limit : ℕ) where
  pub reaches_limit_beyond : (run b env path p (left limit)).budget ≡ limit_reached ↔ limit < (meaning b env path p).opened
  reaches_limit_beyond = beyond limit _ _ _ (meaning_meets b env path p limit) (run_stops b env path p limit)

  pub same_within : (meaning b env path p).opened ≤ limit → run b env path p (left limit) ≡ record { value = (meaning b env path p).value; errors = (meaning b env path p).errors; budget = left (limit - (meaning b env path p).opened) }
  same_within = within limit _ _ _ (meaning_meets b env path p limit) (run_stops b env path p limit)

  pub limit_begins_both : limit < (meaning b env path p).opened → IsLimitOf (up_to_limit b env path p limit) (meaning b env path p) (run b env path p (left limit))
  limit_begins_both = limit_begins limit _ _ _ (meaning_meets b env path p limit) (run_stops b env path p limit)
