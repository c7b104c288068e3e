-- What holds of every step of two walks holds of the walks.
use Rattle.std.proofs.Common.{◌≡◌, ℕ, List, [], ◌∷◌, ◌++◌, length, Bool, true, false, Option, Some, None, refl}
use Rattle.fluent_ast.specs.Tree.{Text, Attribute, Pattern, nothing, more, Element, text, placeable, Expression, inline, select, Variants, no_variants, variant, Inline, string, number, function, message, term, variable, nested, Call, no_call, call, Arguments, arguments, Inlines, no_inlines, argument, Nameds, no_nameds, named_argument}
use Rattle.fluent_ast.specs.Fallback.{fallback, in_braces}
use Rattle.fluent_semantics.specs.Errors.{ResolverError, lost, no_value, missing_default, cyclic, too_many_placeables, Reference, reference_of}
use Rattle.fluent_semantics.specs.Value as values
use Rattle.fluent_semantics.specs.Value.{Value, text_value, number_value, custom_value, error_value, try_number}
use Rattle.fluent_semantics.specs.Arguments.{Map, get}
use Rattle.fluent_semantics.specs.Bundle.{Bundle, Function, Target, unknown, without_value, found, message_target, term_target, function_found, goes_to}
use Rattle.fluent_semantics.specs.Walk.{Environment, application, local, variables, is_on, inner, has_one, Steps, loses_as, loses, go, follow, missing, variable_text, variable_value, answer_text, function_text, elements, part, expression, matched, default_of, written, resolved, local_of, called, positional, named}

-- an error that a walk reports by itself
abbrev pub IsReported : ResolverError → Type 0
IsReported too_many_placeables = ⊥
IsReported (lost r) = Unit {0}
IsReported (no_value id) = Unit {0}
IsReported missing_default = Unit {0}
IsReported cyclic = Unit {0}

-- A relation of two walks: At of patterns, Part of their elements, In of what is written inside a placeable, Gives of values.
pub record Relation (S T : Steps) : Type 1 where
  pub At : S.M Text → T.M Text → Type 0
  pub Part : S.M Text → T.M Text → Type 0
  pub In : S.M Text → T.M Text → Type 0
  pub Gives : {A : Type 0} → S.M A → T.M A → Type 0
  pub ends : At (S.give []) (T.give [])
  pub element : (m k : S.M Text) (n l : T.M Text) → Part m n → At k l → At (S.element m k) (T.element n l)
  pub text : (t : Text) → Part (S.give t) (T.give t)
  pub opens : (marked : Bool) (t : Text) (m : S.M Text) (n : T.M Text) → In m n → Part (S.opens marked t m) (T.opens marked t n)
  pub enters : (k : ℕ) (m : S.M Text) (n : T.M Text) → At m n → In (S.enters k m) (T.enters k n)
  pub give : (t : Text) → In (S.give t) (T.give t)
  pub fails : (e : ResolverError) (t : Text) → IsReported e → In (S.fails e t) (T.fails e t)
  pub bind : {A : Type 0} (m : S.M A) (n : T.M A) (f : A → S.M Text) (g : A → T.M Text) → Gives m n → ((x : A) → In (f x) (g x)) → In (S.bind m f) (T.bind n g)
  pub give_value : {A : Type 0} (x : A) → Gives (S.give x) (T.give x)
  pub bind_value : {A B : Type 0} (m : S.M A) (n : T.M A) (f : A → S.M B) (g : A → T.M B) → Gives m n → ((x : A) → Gives (f x) (g x)) → Gives (S.bind m f) (T.bind n g)
  pub value_of : {A : Type 0} (m : S.M Text) (n : T.M Text) (v : Text → A) → In m n → Gives (S.bind m (λ t. S.give (v t))) (T.bind n (λ t. T.give (v t)))

-- Known patterns are those that references find, Fine paths those that they are found under.
module _ {C : Type 0} (S T : Steps) (R : Relation S T) (b : Bundle C)
    (f : Environment C → List Pattern → Pattern → S.M Text) (g : Environment C → List Pattern → Pattern → T.M Text)
    (env : Environment C)
    (Known : Pattern → Type 0) (Fine : List Pattern → Type 0)
    (messages : (a : Attribute) (id : Text) (p : Pattern) → message_target (get id b.ids) a ≡ found p → Known p)
    (terms : (a : Attribute) (id : Text) (p : Pattern) → term_target (get id b.ids) a ≡ found p → Known p)
    (inwards : (path : List Pattern) (p : Pattern) → Fine path → Fine (inner path p))
    (below : (env' : Environment C) (path : List Pattern) (p : Pattern) → Fine path → Known p → is_on path p ≡ false → R.In (f env' (path ++ p ∷ []) p) (g env' (path ++ p ∷ []) p)) where
  loses_as_related : (r : Option Reference) (t : Text) → R.In (loses_as S b f env r t) (loses_as T b g env r t)
  loses_as_related None t = R.give t
  loses_as_related (Some r) t = R.fails (lost r) t tt

  loses_related : (x : Inline) → R.In (loses S b f env x) (loses T b g env x)
  loses_related x = loses_as_related (reference_of x) (in_braces (fallback x))

  go_related : (on : Bool) (env' : Environment C) (path : List Pattern) (x : Inline) (p : Pattern) → Fine path → Known p → is_on path p ≡ on → R.In (go S b f env on env' path x p) (go T b g env on env' path x p)
  go_related true env' path x p h k e = R.fails cyclic _ tt
  go_related false env' path x p h k e = below env' path p h k e

  follow_related : (env' : Environment C) (path : List Pattern) (x : Inline) (id : Text) (t : Target) → Fine path → ((p : Pattern) → t ≡ found p → Known p) → R.In (follow S b f env env' path x id t) (follow T b g env env' path x id t)
  follow_related env' path x id unknown h k = loses_related x
  follow_related env' path x id without_value h k = R.fails _ _ tt
  follow_related env' path x id (found p) h k = go_related (is_on path p) env' path x p h (k p refl) refl

  missing_related : (env' : Environment C) (x : Inline) → R.In (missing S b f env env' x) (missing T b g env env' x)
  missing_related (application m) x = loses_related x
  missing_related (local m) x = R.give _

  variable_text_related : (x : Inline) (v : Option (Value C)) → R.In (variable_text S b f env x v) (variable_text T b g env x v)
  variable_text_related x None = missing_related env x
  variable_text_related x (Some v) = R.give _

  variable_value_related : (x : Inline) (v : Option (Value C)) → R.Gives (variable_value S b f env x v) (variable_value T b g env x v)
  variable_value_related x None = R.value_of _ _ (λ t. error_value) (missing_related env x)
  variable_value_related x (Some v) = R.give_value _

  answer_text_related : (x : Inline) (v : Value C) → R.In (answer_text S b f env x v) (answer_text T b g env x v)
  answer_text_related x (text_value v) = R.give _
  answer_text_related x (number_value v) = R.give _
  answer_text_related x (custom_value v) = R.give _
  answer_text_related x values.no_value = R.give _
  answer_text_related x error_value = R.give _

  function_text_related : (x : Inline) (h : Option (Function C)) (vs : List (Value C)) (m : Map (Value C)) → R.In (function_text S b f env x h vs m) (function_text T b g env x h vs m)
  function_text_related x None vs m = loses_related x
  function_text_related x (Some h) vs m = answer_text_related x (h vs m)

  mutual
    unfolding elements

    pub elements_related : (path : List Pattern) (one : Bool) (p : Pattern) → Fine path → R.At (elements S b f env path one p) (elements T b g env path one p)
    elements_related path one nothing h = R.ends
    elements_related path one (more e rest) h = R.element _ _ _ _ (part_related path one e h) (elements_related path one rest h)

    part_related : (path : List Pattern) (one : Bool) (e : Element) → Fine path → R.Part (part S b f env path one e) (part T b g env path one e)
    part_related path one (text t) h = R.text _
    part_related path one (placeable e) h = R.opens _ _ _ _ (expression_related path e h)

    pub expression_related : (path : List Pattern) (e : Expression) → Fine path → R.In (expression S b f env path e) (expression T b g env path e)
    expression_related path (inline x) h = written_related path x h
    expression_related path (select x vs) h = R.bind _ _ _ _ (resolved_related path x h) (λ v. matched_related path v _ _ vs h (default_related path vs h))

    matched_related : (path : List Pattern) (v : Value C) (m : S.M Text) (n : T.M Text) (vs : Variants) → Fine path → R.In m n → R.In (matched S b f env path v m vs) (matched T b g env path v n vs)
    matched_related path v m n no_variants h j = j
    matched_related path v m n (variant k p d vs) h j =
        elim (goes_to b v k) as (λ y. R.In
        (elim y [ true ↦ S.enters (length (inner path p)) (elements S b f env (inner path p) (has_one p) p) | false ↦ matched S b f env path v m vs ])
        (elim y [ true ↦ T.enters (length (inner path p)) (elements T b g env (inner path p) (has_one p) p) | false ↦ matched T b g env path v n vs ])) [
          | true ↦ R.enters _ _ _ (elements_related (inner path p) (has_one p) p (inwards path p h))
          | false ↦ matched_related path v m n vs h j
        ]

    default_related : (path : List Pattern) (vs : Variants) → Fine path → R.In (default_of S b f env path vs) (default_of T b g env path vs)
    default_related path no_variants h = R.fails _ _ tt
    default_related path (variant k p true vs) h = R.enters _ _ _ (elements_related (inner path p) (has_one p) p (inwards path p h))
    default_related path (variant k p false vs) h = default_related path vs h

    pub written_related : (path : List Pattern) (x : Inline) → Fine path → R.In (written S b f env path x) (written T b g env path x)
    written_related path (string t) h = R.give _
    written_related path (number t) h = R.give _
    written_related path (function k a) h = R.bind _ _ _ _ (called_related path a h) (λ c. function_text_related (function k a) (function_found (get k b.ids)) c.0 c.1)
    written_related path (message m a) h = follow_related env path (message m a) m (message_target (get m b.ids) a) h (messages a m)
    written_related path (term t a c) h = R.bind _ _ _ _ (local_related path c h) (λ m. follow_related (local m) path (term t a c) t (term_target (get t b.ids) a) h (terms a t))
    written_related path (variable v) h = variable_text_related (variable v) (get v (variables env))
    written_related path (nested e) h = expression_related path e h

    pub resolved_related : (path : List Pattern) (x : Inline) → Fine path → R.Gives (resolved S b f env path x) (resolved T b g env path x)
    resolved_related path (string t) h = R.give_value _
    resolved_related path (number t) h = R.give_value _
    resolved_related path (function k a) h = R.bind_value _ _ _ _ (called_related path a h) (λ c. R.give_value _)
    resolved_related path (message m a) h = R.value_of _ _ text_value (follow_related env path (message m a) m (message_target (get m b.ids) a) h (messages a m))
    resolved_related path (term t a c) h = R.value_of _ _ text_value (R.bind _ _ _ _ (local_related path c h) (λ m. follow_related (local m) path (term t a c) t (term_target (get t b.ids) a) h (terms a t)))
    resolved_related path (variable v) h = variable_value_related (variable v) (get v (variables env))
    resolved_related path (nested e) h = R.value_of _ _ text_value (expression_related path e h)

    local_related : (path : List Pattern) (c : Call) → Fine path → R.Gives (local_of S b f env path c) (local_of T b g env path c)
    local_related path no_call h = R.give_value _
    local_related path (call a) h = R.bind_value _ _ _ _ (called_related path a h) (λ c. R.give_value c.1)

    pub called_related : (path : List Pattern) (a : Arguments) → Fine path → R.Gives (called S b f env path a) (called T b g env path a)
    called_related path (arguments ps ns) h = R.bind_value _ _ _ _ (positional_related path ps h) (λ vs. R.bind_value _ _ _ _ (named_related path ns h) (λ m. R.give_value _))

    positional_related : (path : List Pattern) (xs : Inlines) → Fine path → R.Gives (positional S b f env path xs) (positional T b g env path xs)
    positional_related path no_inlines h = R.give_value _
    positional_related path (argument x xs) h = R.bind_value _ _ _ _ (resolved_related path x h) (λ v. R.bind_value _ _ _ _ (positional_related path xs h) (λ vs. R.give_value _))

    named_related : (path : List Pattern) (ns : Nameds) → Fine path → R.Gives (named S b f env path ns) (named T b g env path ns)
    named_related path no_nameds h = R.give_value _
    named_related path (named_argument n x ns) h = R.bind_value _ _ _ _ (resolved_related path x h) (λ v. R.bind_value _ _ _ _ (named_related path ns h) (λ m. R.give_value _))
