-- What a term's arguments and a run's errors come to.
use Rattle.std.proofs.Common.{◌≡◌, ℕ, zero, suc, ◌+◌, ◌≤◌, List, [], ◌∷◌, ◌++◌, Bool, false, refl, ap, ◌∙◌, arith}
use Rattle.std.specs.Bool.{⊤}
use Rattle.fluent_ast.specs.Tree.{Text, Attribute, Pattern, Inline, string, number, function, message, term, variable, nested, Call, no_call, call, arguments, no_inlines, argument, Nameds, no_nameds, named_argument}
use Rattle.fluent_semantics.specs.Errors.{Error, ResolverError, resolver_error, lost, missing_default, cyclic, too_many_placeables, overriding, parser_error}
use Rattle.fluent_semantics.specs.Errors as errors
use Rattle.fluent_semantics.specs.Value.{Value, Custom, same, text_value, number_value, custom_value, no_value, error_value}
use Rattle.fluent_semantics.specs.Arguments.{Map, get, set_all}
use Rattle.fluent_semantics.specs.Bundle.{Bundle, term_target}
use Rattle.fluent_semantics.specs.Walk.{Environment, local, inner, has_one, Steps, follow, elements, written, resolved, local_of, named, deep}
use Rattle.fluent_semantics.specs.Meaning.{Budget, left, limit_reached, Ran, within_budget, opening, unless_limit_reached, ran, run, depth_of}
use Rattle.fluent_semantics.specs.Users.{IsLiteral, AreLiteral, IsClosed, reaches_limit_in}
use Rattle.fluent_semantics.proofs.Related.{Relation, IsReported, elements_related}

-- ---- none and error

module _ {C : Type 0} (custom : Custom C) where
  pub none_left : (v : Value C) → same custom no_value v ≡ false
  none_left (text_value t) = refl
  none_left (number_value n) = refl
  none_left (custom_value x) = refl
  none_left no_value = refl
  none_left error_value = refl

  pub none_right : (v : Value C) → same custom v no_value ≡ false
  none_right (text_value t) = refl
  none_right (number_value n) = refl
  none_right (custom_value x) = refl
  none_right no_value = refl
  none_right error_value = refl

  pub error_left : (v : Value C) → same custom error_value v ≡ false
  error_left (text_value t) = refl
  error_left (number_value n) = refl
  error_left (custom_value x) = refl
  error_left no_value = refl
  error_left error_value = refl

  pub error_right : (v : Value C) → same custom v error_value ≡ false
  error_right (text_value t) = refl
  error_right (number_value n) = refl
  error_right (custom_value x) = refl
  error_right no_value = refl
  error_right error_value = refl

-- ---- terms

module _ {C : Type 0} (S : Steps) (b : Bundle C) (below : Environment C → List Pattern → Pattern → S.M Text) (env env' : Environment C) (path : List Pattern) where
  literal_same : (x : Inline) → IsLiteral x → resolved S b below env path x ≡ resolved S b below env' path x
  unfolding elements
  literal_same (string t) h = refl
  literal_same (number t) h = refl
  literal_same (function f a) h = absurd h
  literal_same (message m a) h = absurd h
  literal_same (term t a c) h = absurd h
  literal_same (variable v) h = absurd h
  literal_same (nested e) h = absurd h

  named_same : (ns : Nameds) → AreLiteral ns → named S b below env path ns ≡ named S b below env' path ns
  unfolding elements
  named_same no_nameds h = refl
  named_same (named_argument name x ns) h =
      ap (λ m. S.bind (resolved S b below env path x) (λ v. S.bind m (λ l. S.give ((name, v) ∷ l)))) (named_same ns h.1)
      ∙ ap (λ m. S.bind m (λ v. S.bind (named S b below env' path ns) (λ l. S.give ((name, v) ∷ l)))) (literal_same x h.0)

  local_same : (c : Call) → IsClosed c → local_of S b below env path c ≡ local_of S b below env' path c
  unfolding elements
  local_same no_call h = refl
  local_same (call (arguments no_inlines ns)) h = ap (λ m. S.bind {A = List (Value C) × Map (Value C)} (S.bind (S.give []) (λ vs. S.bind m (λ l. S.give (vs, set_all l [])))) (λ c. S.give c.1)) (named_same ns h)
  local_same (call (arguments (argument x xs) ns)) h = absurd h

  pub term_same : (t : Text) (a : Attribute) (c : Call) → IsClosed c → written S b below env path (term t a c) ≡ written S b below env' path (term t a c)
  unfolding elements
  term_same t a c h = ap (λ m. S.bind m (λ l. follow S b below env (local l) path (term t a c) t (term_target (get t b.ids) a))) (local_same c h)

-- ---- the limit's error

-- whether the limit was reached
abbrev pub is_limit_reached : Budget → ℕ
is_limit_reached (left n) = 0
is_limit_reached limit_reached = 1

reaches_limit_join : (es fs : List Error) → reaches_limit_in (es ++ fs) ≡ reaches_limit_in es + reaches_limit_in fs
reaches_limit_join [] fs = omega arith
reaches_limit_join (e ∷ es) fs = omega (arith, reaches_limit_join es fs)

-- the limit's error comes where the budget goes from a number to the limit, and nowhere else
abbrev Once : {A : Type 0} → (Budget → Ran A) → Type 0
Once m = (b : Budget) → reaches_limit_in (m b).errors + is_limit_reached b ≡ is_limit_reached (m b).budget

once_bind : {A B : Type 0} (m : Budget → Ran A) (f : A → Budget → Ran B) → Once m → ((x : A) → Once (f x)) → Once (within_budget.bind m f)
once_bind m f h j b = omega (arith, h b, j (m b).value (m b).budget, reaches_limit_join (m b).errors (f (m b).value (m b).budget).errors)

once_element : (m n : Budget → Ran Text) → Once m → Once n → Once (unless_limit_reached m n)
once_element m n h j (left x) = omega (arith, h (left x), j (m (left x)).budget, reaches_limit_join (m (left x)).errors (n (m (left x)).budget).errors)
once_element m n h j limit_reached = omega arith

once_opens : (marked : Bool) (t : Text) (m : Budget → Ran Text) → Once m → Once (opening marked t m)
once_opens marked t m h (left zero) = omega arith
once_opens marked t m h (left (suc n)) = h (left n)
once_opens marked t m h limit_reached = omega arith

once_fails : {A : Type 0} (e : ResolverError) (x : A) → IsReported e → Once (within_budget.fails e x)
once_fails (lost r) x i b = omega arith
once_fails (errors.no_value id) x i b = omega arith
once_fails missing_default x i b = omega arith
once_fails cyclic x i b = omega arith
once_fails too_many_placeables x i b = absurd i

abbrev reaches_limit_once : Relation within_budget within_budget
reaches_limit_once = record {
  At = λ m n. Once m;
  Part = λ m n. Once m;
  In = λ m n. Once m;
  Gives = λ m n. Once m;
  ends = λ b. omega arith;
  element = λ m k n l h j. once_element m k h j;
  text = λ t b. omega arith;
  opens = λ marked t m n h. once_opens marked t m h;
  enters = λ k m n h. h;
  give = λ t b. omega arith;
  fails = once_fails;
  bind = λ m n f g. once_bind m f;
  give_value = λ x b. omega arith;
  bind_value = λ m n f g. once_bind m f;
  value_of = λ m n v h. once_bind m (λ t. within_budget.give (v t)) h (λ t b. omega arith);
}

module _ {C : Type 0} (b : Bundle C) where
  deep_once : (g : ℕ) (env : Environment C) (path : List Pattern) (p : Pattern) → Once (deep within_budget b g env path p)
  deep_once zero env path p budget = omega arith
  deep_once (suc g) env path p budget =
      elements_related within_budget within_budget reaches_limit_once b (deep within_budget b g) (deep within_budget b g) env (λ q. ⊤) (λ q. ⊤) (λ a id q e. tt) (λ a id q e. tt) (λ q p' u. tt) (λ env' path' q u k e. deep_once g env' _ q) (inner path p) (has_one p) p tt budget

  limit_reached_at_most : (x : Budget) → is_limit_reached x ≤ 1
  limit_reached_at_most (left n) = omega arith
  limit_reached_at_most limit_reached = omega arith

  pub run_once : (env : Environment C) (path : List Pattern) (p : Pattern) (budget : Budget) → reaches_limit_in (run b env path p budget).errors ≤ 1
  unfolding ran
  run_once env path p budget = omega (arith, deep_once (depth_of budget) env path p budget, limit_reached_at_most (run b env path p budget).budget)
