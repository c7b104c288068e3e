-- An environment of a term that has what is asked for is as good as the application's.
use Rattle.std.proofs.Common.{◌≡◌, ℕ, zero, suc, List, [], ◌∷◌, ◌++◌, length, Bool, true, false, Option, Some, None, refl, sym, subst, inl, inr}
use Rattle.std.specs.List.{AllByRecursion}
use Rattle.fluent_ast.specs.Tree.{Text, Attribute, Pattern, nothing, more, Element, text, placeable, Expression, inline, select, Variants, no_variants, variant, Inline, string, number, function, message, term, variable, nested, Call, no_call, call, Arguments, arguments, Inlines, no_inlines, argument, Nameds, no_nameds, named_argument}
use Rattle.fluent_ast.specs.Fallback.{fallback_of}
use Rattle.fluent_semantics.specs.Value as values
use Rattle.fluent_semantics.specs.Value.{Value, text_value, number_value, custom_value, error_value}
use Rattle.fluent_semantics.specs.Arguments.{Map, get, set_all}
use Rattle.fluent_semantics.specs.Bundle.{Bundle, Function, Target, unknown, without_value, found, message_target, term_target, function_found, goes_to}
use Rattle.fluent_semantics.specs.Walk.{Environment, application, local, is_on, inner, has_one, is_marked, Steps, go, follow, variable_text, variable_value, answer_text, function_text, function_value, elements, part, expression, matched, default_of, written, resolved, local_of, called, positional, named, deep}
use Rattle.fluent_semantics.specs.Meaning.{Budget, by_substitution, substituted, meaning, settling, within_budget, ran, run, depth_of}
use Rattle.fluent_places.specs.Places.{names_of}
use Rattle.fluent_places.specs.Needs.{Need, a_message, a_term, a_function, a_variable, a_default, has_default, unless, needs, in_element, in_expression, in_variants, in_inline, in_call, in_arguments, in_positional, in_named, IsAmong, itself, by_message}
use Rattle.fluent_clean.specs.Clean.{IsGiven, AreGiven}
use Rattle.fluent_clean.proofs.NoErrors.{all_left, all_right}

module _ {C : Type 0} (S : Steps) (b : Bundle C) (f : Environment C → List Pattern → Pattern → S.M Text) (m : Map (Value C)) where
  abbrev IsSame : Need → Type 0
  IsSame (a_message id a) = (path : List Pattern) (q : Pattern) → message_target (get id b.ids) a ≡ found q → f (local m) path q ≡ f (application m) path q
  IsSame (a_term t a names) = Unit {0}
  IsSame (a_function g) = Unit {0}
  IsSame (a_variable v) = IsGiven m v
  IsSame a_default = Unit {0}

  go_same : (on : Bool) (path : List Pattern) (x : Inline) (q : Pattern) → f (local m) (path ++ q ∷ []) q ≡ f (application m) (path ++ q ∷ []) q → go S b f (local m) on (local m) path x q ≡ go S b f (application m) on (application m) path x q
  go_same true path x q h = refl
  go_same false path x q h = h

  message_same : (path : List Pattern) (id : Text) (a : Attribute) (t : Target) → ((q : Pattern) → t ≡ found q → f (local m) (path ++ q ∷ []) q ≡ f (application m) (path ++ q ∷ []) q)
      → follow S b f (local m) (local m) path (message id a) id t ≡ follow S b f (application m) (application m) path (message id a) id t
  message_same path id a unknown h = refl
  message_same path id a without_value h = refl
  message_same path id a (found q) h = go_same (is_on path q) path (message id a) q (h q refl)

  go_term : (on : Bool) (l : Map (Value C)) (path : List Pattern) (x : Inline) (q : Pattern) → go S b f (local m) on (local l) path x q ≡ go S b f (application m) on (local l) path x q
  go_term true l path x q = refl
  go_term false l path x q = refl

  term_same : (l : Map (Value C)) (path : List Pattern) (id : Text) (a : Attribute) (c : Call) (t : Target) → follow S b f (local m) (local l) path (term id a c) id t ≡ follow S b f (application m) (local l) path (term id a c) id t
  term_same l path id a c unknown = refl
  term_same l path id a c without_value = refl
  term_same l path id a c (found q) = go_term (is_on path q) l path (term id a c) q

  text_same : (v : Text) → IsGiven m v → variable_text S b f (local m) (variable v) (get v m) ≡ variable_text S b f (application m) (variable v) (get v m)
  text_same v h = subst (λ o. variable_text S b f (local m) (variable v) o ≡ variable_text S b f (application m) (variable v) o) (sym h.1) refl

  value_same : (v : Text) → IsGiven m v → variable_value S b f (local m) (variable v) (get v m) ≡ variable_value S b f (application m) (variable v) (get v m)
  value_same v h = subst (λ o. variable_value S b f (local m) (variable v) o ≡ variable_value S b f (application m) (variable v) o) (sym h.1) refl

  answer_same : (x : Inline) (v : Value C) → answer_text S b f (local m) x v ≡ answer_text S b f (application m) x v
  answer_same x (text_value v) = refl
  answer_same x (number_value v) = refl
  answer_same x (custom_value v) = refl
  answer_same x values.no_value = refl
  answer_same x error_value = refl

  function_same : (g : Text) (a : Arguments) (o : Option (Function C)) (vs : List (Value C)) (n : Map (Value C)) → function_text S b f (local m) (function g a) o vs n ≡ function_text S b f (application m) (function g a) o vs n
  function_same g a None vs n = refl
  function_same g a (Some h) vs n = answer_same (function g a) (h vs n)

  function_value_same : (o : Option (Function C)) (vs : List (Value C)) (n : Map (Value C)) → function_value S b f (local m) o vs n ≡ function_value S b f (application m) o vs n
  function_value_same None vs n = refl
  function_value_same (Some h) vs n = refl

  mutual
    unfolding elements

    pub elements_same : (path : List Pattern) (one : Bool) (p : Pattern) → AllByRecursion IsSame (needs p) → elements S b f (local m) path one p ≡ elements S b f (application m) path one p
    elements_same path one nothing h = refl
    elements_same path one (more e p) h = λ i. S.element (part_same path one e (all_left IsSame (in_element e) (needs p) h) i) (elements_same path one p (all_right IsSame (in_element e) (needs p) h) i)

    part_same : (path : List Pattern) (one : Bool) (e : Element) → AllByRecursion IsSame (in_element e) → part S b f (local m) path one e ≡ part S b f (application m) path one e
    part_same path one (text t) h = refl
    part_same path one (placeable e) h = λ i. S.opens (is_marked b.isolates one e) (fallback_of e) (expression_same path e h i)

    expression_same : (path : List Pattern) (e : Expression) → AllByRecursion IsSame (in_expression e) → expression S b f (local m) path e ≡ expression S b f (application m) path e
    expression_same path (inline x) h = written_same path x h
    expression_same path (select x vs) h =
        let these = all_left IsSame (in_variants vs) (unless (has_default vs) a_default) (all_right IsSame (in_inline x) (in_variants vs ++ unless (has_default vs) a_default) h) in
        λ i. S.bind (resolved_same path x (all_left IsSame (in_inline x) _ h) i) (λ v. matched_same path v _ _ vs (default_same path vs these) these i)

    matched_same : (path : List Pattern) (v : Value C) (k l : S.M Text) (vs : Variants) → k ≡ l → AllByRecursion IsSame (in_variants vs) → matched S b f (local m) path v k vs ≡ matched S b f (application m) path v l vs
    matched_same path v k l no_variants j h = j
    matched_same path v k l (variant key p d vs) j h =
        elim (goes_to b v key) as (λ y. elim y as (λ z. S.M Text) [ true ↦ S.enters (length (inner path p)) (elements S b f (local m) (inner path p) (has_one p) p) | false ↦ matched S b f (local m) path v k vs ]
        ≡ elim y as (λ z. S.M Text) [ true ↦ S.enters (length (inner path p)) (elements S b f (application m) (inner path p) (has_one p) p) | false ↦ matched S b f (application m) path v l vs ]) [
          | true ↦ λ i. S.enters (length (inner path p)) (elements_same (inner path p) (has_one p) p (all_left IsSame (needs p) (in_variants vs) h) i)
          | false ↦ matched_same path v k l vs j (all_right IsSame (needs p) (in_variants vs) h)
        ]

    default_same : (path : List Pattern) (vs : Variants) → AllByRecursion IsSame (in_variants vs) → default_of S b f (local m) path vs ≡ default_of S b f (application m) path vs
    default_same path no_variants h = refl
    default_same path (variant k p true vs) h = λ i. S.enters (length (inner path p)) (elements_same (inner path p) (has_one p) p (all_left IsSame (needs p) (in_variants vs) h) i)
    default_same path (variant k p false vs) h = default_same path vs (all_right IsSame (needs p) (in_variants vs) h)

    written_same : (path : List Pattern) (x : Inline) → AllByRecursion IsSame (in_inline x) → written S b f (local m) path x ≡ written S b f (application m) path x
    written_same path (string t) h = refl
    written_same path (number t) h = refl
    written_same path (function g a) h = λ i. S.bind (called_same path a h.1 i) (λ c. function_same g a (function_found (get g b.ids)) c.0 c.1 i)
    written_same path (message id a) h = message_same path id a (message_target (get id b.ids) a) (λ q e. h.0 (path ++ q ∷ []) q e)
    written_same path (term t a c) h = λ i. S.bind (local_same path c h.1 i) (λ l. term_same l path t a c (term_target (get t b.ids) a) i)
    written_same path (variable v) h = text_same v h.0
    written_same path (nested e) h = expression_same path e h

    resolved_same : (path : List Pattern) (x : Inline) → AllByRecursion IsSame (in_inline x) → resolved S b f (local m) path x ≡ resolved S b f (application m) path x
    resolved_same path (string t) h = refl
    resolved_same path (number t) h = refl
    resolved_same path (function g a) h = λ i. S.bind (called_same path a h.1 i) (λ c. S.give (function_value_same (function_found (get g b.ids)) c.0 c.1 i))
    resolved_same path (message id a) h = λ i. S.bind (message_same path id a (message_target (get id b.ids) a) (λ q e. h.0 (path ++ q ∷ []) q e) i) (λ t. S.give (text_value t))
    resolved_same path (term t a c) h = λ i. S.bind (S.bind (local_same path c h.1 i) (λ l. term_same l path t a c (term_target (get t b.ids) a) i)) (λ t'. S.give (text_value t'))
    resolved_same path (variable v) h = value_same v h.0
    resolved_same path (nested e) h = λ i. S.bind (expression_same path e h i) (λ t. S.give (text_value t))

    local_same : (path : List Pattern) (c : Call) → AllByRecursion IsSame (in_call c) → local_of S b f (local m) path c ≡ local_of S b f (application m) path c
    local_same path no_call h = refl
    local_same path (call a) h = λ i. S.bind (called_same path a h i) (λ c. S.give c.1)

    called_same : (path : List Pattern) (a : Arguments) → AllByRecursion IsSame (in_arguments a) → called S b f (local m) path a ≡ called S b f (application m) path a
    called_same path (arguments xs ns) h = λ i. S.bind (positional_same path xs (all_left IsSame (in_positional xs) (in_named ns) h) i) (λ vs. S.bind (named_same path ns (all_right IsSame (in_positional xs) (in_named ns) h) i) (λ l. S.give (vs, set_all l [])))

    positional_same : (path : List Pattern) (xs : Inlines) → AllByRecursion IsSame (in_positional xs) → positional S b f (local m) path xs ≡ positional S b f (application m) path xs
    positional_same path no_inlines h = refl
    positional_same path (argument x xs) h = λ i. S.bind (resolved_same path x (all_left IsSame (in_inline x) (in_positional xs) h) i) (λ v. S.bind (positional_same path xs (all_right IsSame (in_inline x) (in_positional xs) h) i) (λ vs. S.give (v ∷ vs)))

    named_same : (path : List Pattern) (ns : Nameds) → AllByRecursion IsSame (in_named ns) → named S b f (local m) path ns ≡ named S b f (application m) path ns
    named_same path no_nameds h = refl
    named_same path (named_argument name x ns) h = λ i. S.bind (resolved_same path x (all_left IsSame (in_inline x) (in_named ns) h) i) (λ v. S.bind (named_same path ns (all_right IsSame (in_inline x) (in_named ns) h) i) (λ l. S.give ((name, v) ∷ l)))

module _ {C : Type 0} (S : Steps) (b : Bundle C) (m : Map (Value C)) where
  each_same : (f : Environment C → List Pattern → Pattern → S.M Text) (ns : List Need)
      → ((x : Need) → IsAmong x ns → IsSame S b f m x) → AllByRecursion (IsSame S b f m) ns
  each_same f [] h = tt
  each_same f (n ∷ ns) h = (h n (inl refl), each_same f ns (λ x among. h x (inr among)))

  need_same : (f : Environment C → List Pattern → Pattern → S.M Text) (p : Pattern) → AreGiven (names_of b) m p
      → ((path : List Pattern) (q : Pattern) → AreGiven (names_of b) m q → f (local m) path q ≡ f (application m) path q)
      → (x : Need) → IsAmong x (needs p) → IsSame S b f m x
  need_same f p given next (a_message id a) among = λ path q e. next path q (λ v asks. given v (by_message id a among e asks))
  need_same f p given next (a_term t a names) among = tt
  need_same f p given next (a_function g) among = tt
  need_same f p given next (a_variable v) among = given v (itself among)
  need_same f p given next a_default among = tt

  pub deep_same : (n : ℕ) (path : List Pattern) (p : Pattern) → AreGiven (names_of b) m p → deep S b n (local m) path p ≡ deep S b n (application m) path p
  deep_same zero path p given = refl
  deep_same (suc n) path p given = λ i. S.enters (length (inner path p)) (elements_same S b (deep S b n) m (inner path p) (has_one p) p (each_same (deep S b n) (needs p) (need_same (deep S b n) p given (deep_same n))) i)

module _ {C : Type 0} (b : Bundle C) where
  pub substituted_same : (m : Map (Value C)) (path : List Pattern) (p : Pattern) → AreGiven (names_of b) m p → meaning b (local m) path p ≡ meaning b (application m) path p
  unfolding substituted
  substituted_same m path p given = deep_same by_substitution b m (settling b) path p given

  pub run_same : (m : Map (Value C)) (path : List Pattern) (p : Pattern) (budget : Budget) → AreGiven (names_of b) m p → run b (local m) path p budget ≡ run b (application m) path p budget
  unfolding ran
  run_same m path p budget given = λ i. deep_same within_budget b m (depth_of budget) path p given i budget
