-- Where all that a pattern asks for is well, its walk has no errors.
use Rattle.std.proofs.Common.{◌≡◌, inl, inr, ℕ, zero, suc, List, [], ◌∷◌, ◌++◌, Bool, true, false, Option, Some, None, refl, sym, ap, subst, ◌∙◌}
use Rattle.std.specs.List.{AllByRecursion}
use Rattle.fluent_ast.specs.Tree.{Text, Attribute, Pattern, nothing, more, Element, text, placeable, Expression, inline, select, Variants, no_variants, variant, Inline, string, number, function, message, term, variable, nested, Call, no_call, call, Arguments, arguments, Inlines, no_inlines, argument, Nameds, no_nameds, named_argument}
use Rattle.fluent_semantics.specs.Errors.{Error}
use Rattle.fluent_semantics.specs.Value as values
use Rattle.fluent_semantics.specs.Value.{Value, text_value, number_value, custom_value, error_value}
use Rattle.fluent_semantics.specs.Arguments.{Map, get}
use Rattle.fluent_semantics.specs.Bundle.{Bundle, Function, Target, found, message_target, term_target, function_found, goes_to}
use Rattle.fluent_semantics.specs.Walk.{Environment, application, local, variables, is_on, has_one, go, follow, variable_text, variable_value, answer_text, function_text, elements, part, expression, matched, default_of, written, resolved, local_of, called, positional, named, deep}
use Rattle.fluent_semantics.specs.Meaning.{Outcome, by_substitution, substituted, meaning, settling}
use Rattle.fluent_places.specs.Places.{names_of}
use Rattle.fluent_places.specs.Needs.{Need, a_message, a_term, a_function, a_variable, a_default, has_default, unless, needs, in_element, in_expression, in_variants, in_inline, in_call, in_arguments, in_positional, in_named, IsAmong, itself, by_message}
use Rattle.fluent_clean.specs.Clean.{RefersTo, IsThere, IsClean, clean, IsGiven, AreGiven}
use Rattle.fluent_clean.proofs.Acyclic.{IsAbove, off_path, goes_on, path_on}

abbrev pub HasNone : {A : Type 0} → Outcome A → Type 0
HasNone o = o.errors ≡ []

none : (es fs : List Error) → es ≡ [] → fs ≡ [] → es ++ fs ≡ []
none es fs h j = ap (λ l. l ++ fs) h ∙ j

pub all_left : {A : Type 0} (P : A → Type 0) (xs ys : List A) → AllByRecursion P (xs ++ ys) → AllByRecursion P xs
all_left P [] ys h = tt
all_left P (x ∷ xs) ys h = (h.0, all_left P xs ys h.1)

pub all_right : {A : Type 0} (P : A → Type 0) (xs ys : List A) → AllByRecursion P (xs ++ ys) → AllByRecursion P ys
all_right P [] ys h = h
all_right P (x ∷ xs) ys h = all_right P xs ys h.1

all_among : {A : Type 0} (P Q : A → Type 0) (xs : List A) → AllByRecursion P xs → ((x : A) → IsAmong x xs → P x → Q x) → AllByRecursion Q xs
all_among P Q [] h j = tt
all_among P Q (x ∷ xs) h j = (j x (inl refl) h.0, all_among P Q xs h.1 (λ y m. j y (inr m)))

is_there : {C : Type 0} (f : Option (Function C)) → Rattle.std.specs.Prelude.is_some f ≡ true → (h : Function C) × (f ≡ Some h)
is_there None h = absurd cc
is_there (Some f) h = (f, refl)

-- a variable that an environment has, if it has to
abbrev pub IsSet : {C : Type 0} → Environment C → Text → Type 0
IsSet (application m) v = IsGiven m v
IsSet (local m) v = Unit {0}

module _ {C : Type 0} (b : Bundle C) (below : Environment C → List Pattern → Pattern → Outcome Text) (env : Environment C) (top : Pattern) (rest : List Pattern) where
  abbrev IsWell : Need → Type 0
  IsWell (a_message m a) = (q : Pattern) × (message_target (get m b.ids) a ≡ found q) × (is_on (top ∷ rest) q ≡ false) × HasNone (below env ((top ∷ rest) ++ q ∷ []) q)
  IsWell (a_term t a names) = (q : Pattern) × (term_target (get t b.ids) a ≡ found q) × (is_on (top ∷ rest) q ≡ false) × ((m : Map (Value C)) → HasNone (below (local m) ((top ∷ rest) ++ q ∷ []) q))
  IsWell (a_function f) = (h : Function C) × (function_found (get f b.ids) ≡ Some h)
  IsWell (a_variable v) = IsSet env v
  IsWell a_default = ⊥

  go_none : (on : Bool) (env' : Environment C) (x : Inline) (q : Pattern) → on ≡ false → HasNone (below env' ((top ∷ rest) ++ q ∷ []) q) → HasNone (go by_substitution b below env on env' (top ∷ rest) x q)
  go_none true env' x q h j = absurd cc
  go_none false env' x q h j = j

  follow_none : (env' : Environment C) (x : Inline) (id : Text) (t : Target) (q : Pattern) → t ≡ found q → is_on (top ∷ rest) q ≡ false → HasNone (below env' ((top ∷ rest) ++ q ∷ []) q) → HasNone (follow by_substitution b below env env' (top ∷ rest) x id t)
  follow_none env' x id t q e h j = subst (λ u. HasNone (follow by_substitution b below env env' (top ∷ rest) x id u)) (sym e) (go_none (is_on (top ∷ rest) q) env' x q h j)

  variable_text_none : (e : Environment C) (x : Inline) (v : Text) → IsSet e v → HasNone (variable_text by_substitution b below e x (get v (variables e)))
  variable_text_none (application m) x v h = subst (λ o. HasNone (variable_text by_substitution b below (application m) x o)) (sym h.1) refl
  variable_text_none (local m) x v h = by (get v m)
    where
      by : (o : Option (Value C)) → HasNone (variable_text by_substitution b below (local m) x o)
      by None = refl
      by (Some w) = refl

  variable_value_none : (e : Environment C) (x : Inline) (v : Text) → IsSet e v → HasNone (variable_value by_substitution b below e x (get v (variables e)))
  variable_value_none (application m) x v h = subst (λ o. HasNone (variable_value by_substitution b below (application m) x o)) (sym h.1) refl
  variable_value_none (local m) x v h = by (get v m)
    where
      by : (o : Option (Value C)) → HasNone (variable_value by_substitution b below (local m) x o)
      by None = refl
      by (Some w) = refl

  answer_none : (x : Inline) (v : Value C) → HasNone (answer_text by_substitution b below env x v)
  answer_none x (text_value v) = refl
  answer_none x (number_value v) = refl
  answer_none x (custom_value v) = refl
  answer_none x values.no_value = refl
  answer_none x error_value = refl

  function_none : (x : Inline) (f : Option (Function C)) (h : Function C) → f ≡ Some h → (vs : List (Value C)) (m : Map (Value C)) → HasNone (function_text by_substitution b below env x f vs m)
  function_none x f h e vs m = subst (λ o. HasNone (function_text by_substitution b below env x o vs m)) (sym e) (answer_none x (h vs m))

  default_is_there : (d : Bool) → AllByRecursion IsWell (unless d a_default) → d ≡ true
  default_is_there true h = refl
  default_is_there false h = absurd h.0

  mutual
    unfolding elements

    pub elements_none : (one : Bool) (p : Pattern) → AllByRecursion IsWell (needs p) → HasNone (elements by_substitution b below env (top ∷ rest) one p)
    elements_none one nothing h = refl
    elements_none one (more e p) h = none _ _ (part_none one e (all_left IsWell (in_element e) (needs p) h)) (elements_none one p (all_right IsWell (in_element e) (needs p) h))

    part_none : (one : Bool) (e : Element) → AllByRecursion IsWell (in_element e) → HasNone (part by_substitution b below env (top ∷ rest) one e)
    part_none one (text t) h = refl
    part_none one (placeable e) h = expression_none e h

    expression_none : (e : Expression) → AllByRecursion IsWell (in_expression e) → HasNone (expression by_substitution b below env (top ∷ rest) e)
    expression_none (inline x) h = written_none x h
    expression_none (select x vs) h =
        let later = all_right IsWell (in_inline x) (in_variants vs ++ unless (has_default vs) a_default) h in
        let these = all_left IsWell (in_variants vs) (unless (has_default vs) a_default) later in
        let there = default_is_there (has_default vs) (all_right IsWell (in_variants vs) (unless (has_default vs) a_default) later) in
        none _ _ (resolved_none x (all_left IsWell (in_inline x) _ h)) (matched_none _ _ vs (default_none vs there these) these)

    matched_none : (v : Value C) (m : Outcome Text) (vs : Variants) → HasNone m → AllByRecursion IsWell (in_variants vs) → HasNone (matched by_substitution b below env (top ∷ rest) v m vs)
    matched_none v m no_variants j h = j
    matched_none v m (variant k p d vs) j h =
        elim (goes_to b v k) as (λ y. HasNone (elim y [ true ↦ elements by_substitution b below env (top ∷ rest) (has_one p) p | false ↦ matched by_substitution b below env (top ∷ rest) v m vs ])) [
          | true ↦ elements_none (has_one p) p (all_left IsWell (needs p) (in_variants vs) h)
          | false ↦ matched_none v m vs j (all_right IsWell (needs p) (in_variants vs) h)
        ]

    default_none : (vs : Variants) → has_default vs ≡ true → AllByRecursion IsWell (in_variants vs) → HasNone (default_of by_substitution b below env (top ∷ rest) vs)
    default_none no_variants e h = absurd cc
    default_none (variant k p true vs) e h = elements_none (has_one p) p (all_left IsWell (needs p) (in_variants vs) h)
    default_none (variant k p false vs) e h = default_none vs e (all_right IsWell (needs p) (in_variants vs) h)

    written_none : (x : Inline) → AllByRecursion IsWell (in_inline x) → HasNone (written by_substitution b below env (top ∷ rest) x)
    written_none (string t) h = refl
    written_none (number t) h = refl
    written_none (function f a) h = none _ _ (called_none a h.1) (function_none (function f a) (function_found (get f b.ids)) h.0.0 h.0.1 _ _)
    written_none (message m a) h = follow_none env (message m a) m (message_target (get m b.ids) a) h.0.0 h.0.1 h.0.2 h.0.3
    written_none (term t a c) h = none _ _ (local_none c h.1) (follow_none (local _) (term t a c) t (term_target (get t b.ids) a) h.0.0 h.0.1 h.0.2 (h.0.3 _))
    written_none (variable v) h = variable_text_none env (variable v) v h.0
    written_none (nested e) h = expression_none e h

    resolved_none : (x : Inline) → AllByRecursion IsWell (in_inline x) → HasNone (resolved by_substitution b below env (top ∷ rest) x)
    resolved_none (string t) h = refl
    resolved_none (number t) h = refl
    resolved_none (function f a) h = none _ _ (called_none a h.1) refl
    resolved_none (message m a) h = none _ _ (follow_none env (message m a) m (message_target (get m b.ids) a) h.0.0 h.0.1 h.0.2 h.0.3) refl
    resolved_none (term t a c) h = none _ _ (none _ _ (local_none c h.1) (follow_none (local _) (term t a c) t (term_target (get t b.ids) a) h.0.0 h.0.1 h.0.2 (h.0.3 _))) refl
    resolved_none (variable v) h = variable_value_none env (variable v) v h.0
    resolved_none (nested e) h = none _ _ (expression_none e h) refl

    local_none : (c : Call) → AllByRecursion IsWell (in_call c) → HasNone (local_of by_substitution b below env (top ∷ rest) c)
    local_none no_call h = refl
    local_none (call a) h = none _ _ (called_none a h) refl

    called_none : (a : Arguments) → AllByRecursion IsWell (in_arguments a) → HasNone (called by_substitution b below env (top ∷ rest) a)
    called_none (arguments xs ns) h = none _ _ (positional_none xs (all_left IsWell (in_positional xs) (in_named ns) h)) (none _ _ (named_none ns (all_right IsWell (in_positional xs) (in_named ns) h)) refl)

    positional_none : (xs : Inlines) → AllByRecursion IsWell (in_positional xs) → HasNone (positional by_substitution b below env (top ∷ rest) xs)
    positional_none no_inlines h = refl
    positional_none (argument x xs) h = none _ _ (resolved_none x (all_left IsWell (in_inline x) (in_positional xs) h)) (none _ _ (positional_none xs (all_right IsWell (in_inline x) (in_positional xs) h)) refl)

    named_none : (ns : Nameds) → AllByRecursion IsWell (in_named ns) → HasNone (named by_substitution b below env (top ∷ rest) ns)
    named_none no_nameds h = refl
    named_none (named_argument name x ns) h = none _ _ (resolved_none x (all_left IsWell (in_inline x) (in_named ns) h)) (none _ _ (named_none ns (all_right IsWell (in_inline x) (in_named ns) h)) refl)

-- what an environment owes a pattern
abbrev pub Serves : {C : Type 0} → Bundle C → Environment C → Pattern → Type 0
Serves b (application m) p = AreGiven (names_of b) m p
Serves b (local m) p = Unit {0}

module _ {C : Type 0} (b : Bundle C) where
  serves_itself : (env : Environment C) (p : Pattern) (v : Text) → Serves b env p → IsAmong (a_variable v) (needs p) → IsSet env v
  serves_itself (application m) p v h among = h v (itself among)
  serves_itself (local m) p v h among = tt

  serves_message : (env : Environment C) (p q : Pattern) (m : Text) (a : Attribute) → Serves b env p → IsAmong (a_message m a) (needs p) → message_target (get m b.ids) a ≡ found q → Serves b env q
  serves_message (application args) p q m a h among e = λ v asks. h v (by_message m a among e asks)
  serves_message (local args) p q m a h among e = tt

  -- each need of a clean pattern is well, where clean patterns that it refers to have no errors
  need_is_well : (f : Environment C → List Pattern → Pattern → Outcome Text) (env : Environment C) (top : Pattern) (rest : List Pattern) (p : Pattern)
      → ((q : Pattern) → RefersTo (names_of b) p q → IsClean (names_of b) q) → Serves b env p → AllByRecursion (IsAbove (names_of b) p) (top ∷ rest)
      → ((env' : Environment C) (q : Pattern) → IsClean (names_of b) q → Serves b env' q → AllByRecursion (IsAbove (names_of b) q) ((top ∷ rest) ++ q ∷ []) → HasNone (f env' ((top ∷ rest) ++ q ∷ []) q))
      → (x : Need) → IsAmong x (needs p) → IsThere (names_of b) x → IsWell b f env top rest x
  need_is_well f env top rest p below s above next (a_message m a) among h =
      let r : RefersTo (names_of b) p h.0 = (a_message m a, among, h.1) in
      let over = goes_on (names_of b) (top ∷ rest) p h.0 r above in
      (h.0, h.1, off_path (names_of b) (top ∷ rest) h.0 (below h.0 r) over, next env h.0 (below h.0 r) (serves_message env p h.0 m a s among h.1) (path_on (names_of b) (top ∷ rest) h.0 over))
  need_is_well f env top rest p below s above next (a_term t a names) among h =
      let r : RefersTo (names_of b) p h.0 = (a_term t a names, among, h.1) in
      let over = goes_on (names_of b) (top ∷ rest) p h.0 r above in
      (h.0, h.1, off_path (names_of b) (top ∷ rest) h.0 (below h.0 r) over, λ m. next (local m) h.0 (below h.0 r) tt (path_on (names_of b) (top ∷ rest) h.0 over))
  need_is_well f env top rest p below s above next (a_function g) among h = is_there (function_found (get g b.ids)) h
  need_is_well f env top rest p below s above next (a_variable v) among h = serves_itself env p v s among
  need_is_well f env top rest p below s above next a_default among h = h

  pub clean_none : (n : ℕ) (env : Environment C) (top : Pattern) (rest : List Pattern) (p : Pattern) → IsClean (names_of b) p → Serves b env p → AllByRecursion (IsAbove (names_of b) p) (top ∷ rest) → HasNone (deep by_substitution b n env (top ∷ rest) p)
  clean_none zero env top rest p c s above = refl
  clean_none (suc n) env top rest p (clean there below) s above =
      elements_none b (deep by_substitution b n) env top rest (has_one p) p
      (all_among (IsThere (names_of b)) (IsWell b (deep by_substitution b n) env top rest) (needs p) there
      (need_is_well (deep by_substitution b n) env top rest p below s above (λ env' q c' s' above'. clean_none n env' top (rest ++ q ∷ []) q c' s' above')))

  -- a pattern that is handed in stands under an empty path
  pub clean_has_none : (env : Environment C) (p : Pattern) → IsClean (names_of b) p → Serves b env p → (meaning b env [] p).errors ≡ []
  unfolding substituted
  clean_has_none env p c s = clean_none (settling b) env p [] p c s ((0, refl), tt)
