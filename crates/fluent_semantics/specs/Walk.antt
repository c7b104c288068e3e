-- How a pattern is resolved, whatever is kept count of on the way: a case for each part of Fluent Syntax 1.0, "Patterns" to "Call Arguments", as fluent-bundle's resolver treats it.
use Rattle.std.specs.Prelude.{ℕ, zero, suc, List, [], ◌∷◌, ◌++◌, length, Bool, true, false, ◌&&◌, not, Option, Some, None, if◌then◌else◌}
use Rattle.fluent_ast.specs.Tree.{Text, is_yes, pattern_same, Pattern, nothing, more, Element, text, placeable, Expression, inline, select, Variants, no_variants, variant, Inline, string, number, function, message, term, variable, nested, Call, no_call, call, Arguments, arguments, Inlines, no_inlines, argument, Nameds, no_nameds, named_argument}
use Rattle.fluent_ast.specs.Fallback.{fallback, fallback_of, in_braces}
use Rattle.fluent_text.specs.Escapes.{unescaped}
use Rattle.fluent_semantics.specs.Errors.{ResolverError, lost, no_value, missing_default, cyclic, Reference, reference_of}
use Rattle.fluent_semantics.specs.Value.{Value, text_value, error_value, try_number}
use Rattle.fluent_semantics.specs.Arguments.{Map, get, set_all}
use Rattle.fluent_semantics.specs.Bundle.{Bundle, Function, Target, unknown, without_value, found, message_target, term_target, function_found, shown, goes_to}

-- the arguments of the application, or those of a term reference alone
pub data Environment (C : Type 0) : Type 0 where
  application : Map (Value C) → Environment C
  local : Map (Value C) → Environment C

abbrev pub variables : {C : Type 0} → Environment C → Map (Value C)
variables (application m) = m
variables (local m) = m

-- ---- paths, which compare patterns by their content

abbrev pub is_on : List Pattern → Pattern → Bool
is_on [] p = false
is_on (q ∷ path) p = if is_yes (pattern_same q p) then true else is_on path p

-- the path that a pattern's own placeables stand under
abbrev pub inner : List Pattern → Pattern → List Pattern
inner [] p = p ∷ []
inner (q ∷ path) p = q ∷ path

-- ---- isolation

abbrev pub has_one : Pattern → Bool
has_one (more e nothing) = true
has_one _ = false

-- directly a message reference, a term reference or a string literal
abbrev pub is_bare : Expression → Bool
is_bare (inline (message m a)) = true
is_bare (inline (term t a c)) = true
is_bare (inline (string t)) = true
is_bare _ = false

-- a placeable stands between marks: where isolation is on, its pattern has more than one element, and it isn't bare
abbrev pub is_marked : Bool → Bool → Expression → Bool
is_marked isolates one e = isolates && not one && not (is_bare e)

-- ---- the steps of a walk, where `M A` is a walk that gives an `A`
pub record Steps : Type 1 where
  pub M : Type 0 → Type 0
  pub give : {A : Type 0} → A → M A
  -- the error, then the value
  pub fails : {A : Type 0} → ResolverError → A → M A
  pub bind : {A B : Type 0} → M A → (A → M B) → M B
  -- an element of a pattern, then the rest of the pattern
  pub element : M Text → M Text → M Text
  -- a placeable: between marks or not, its fallback, its expression
  pub opens : Bool → Text → M Text → M Text
  -- a pattern, under a path of this length
  pub enters : ℕ → M Text → M Text

-- What each part does in a bundle and an environment, under a path; below is the meaning of a pattern that is referred to.
module _ {C : Type 0} (S : Steps) (b : Bundle C) (below : Environment C → List Pattern → Pattern → S.M Text) (env : Environment C) where
  abbrev pub loses_as : Option Reference → Text → S.M Text
  loses_as None t = S.give t
  loses_as (Some r) t = S.fails (lost r) t

  -- what can't be found: its error, and its fallback in braces
  abbrev pub loses : Inline → S.M Text
  loses x = loses_as (reference_of x) (in_braces (fallback x))

  -- the pattern that x refers to: cyclic if it stands on the path, else written with itself added to the path
  abbrev pub go : Bool → Environment C → List Pattern → Inline → Pattern → S.M Text
  go true env' path x p = S.fails cyclic (in_braces (fallback x))
  go false env' path x p = below env' (path ++ p ∷ []) p

  abbrev pub follow : Environment C → List Pattern → Inline → Text → Target → S.M Text
  follow env' path x id unknown = loses x
  follow env' path x id without_value = S.fails (no_value id) (in_braces id)
  follow env' path x id (found p) = go (is_on path p) env' path x p

  -- a variable that the environment lacks: an error only where it is the application's
  abbrev pub missing : Environment C → Inline → S.M Text
  missing (application m) x = loses x
  missing (local m) x = S.give (in_braces (fallback x))

  abbrev pub variable_text : Inline → Option (Value C) → S.M Text
  variable_text x (Some v) = S.give (shown b v)
  variable_text x None = missing env x

  -- its value, or an error value, with an error as above
  abbrev pub variable_value : Inline → Option (Value C) → S.M (Value C)
  variable_value x (Some v) = S.give v
  variable_value x None = S.bind (missing env x) (λ t. S.give error_value)

  abbrev pub answer_text : Inline → Value C → S.M Text
  answer_text x error_value = S.give (fallback x)
  answer_text x v = S.give (shown b v)

  abbrev pub function_text : Inline → Option (Function C) → List (Value C) → Map (Value C) → S.M Text
  function_text x None positional named = loses x
  function_text x (Some f) positional named = answer_text x (f positional named)

  abbrev pub function_value : Option (Function C) → List (Value C) → Map (Value C) → Value C
  function_value None positional named = error_value
  function_value (Some f) positional named = f positional named

  abbrev pub as_value : S.M Text → S.M (Value C)
  as_value m = S.bind m (λ t. S.give (text_value t))

  unfoldable mutual
    -- the elements of a pattern, which has one alone or not
    pub elements : List Pattern → Bool → Pattern → S.M Text
    elements path one nothing = S.give []
    elements path one (more e rest) = S.element (part path one e) (elements path one rest)

    pub part : List Pattern → Bool → Element → S.M Text
    part path one (text t) = S.give (b.transform t)
    part path one (placeable e) = S.opens (is_marked b.isolates one e) (fallback_of e) (expression path e)

    pub expression : List Pattern → Expression → S.M Text
    expression path (inline x) = written path x
    expression path (select x vs) = S.bind (resolved path x) (λ v. matched path v (default_of path vs) vs)

    -- the first variant whose key matches
    pub matched : List Pattern → Value C → S.M Text → Variants → S.M Text
    matched path v otherwise no_variants = otherwise
    matched path v otherwise (variant k p d vs) =
        elim (goes_to b v k) [
          | true ↦ S.enters (length (inner path p)) (elements (inner path p) (has_one p) p)
          | false ↦ matched path v otherwise vs
        ]

    -- the first default
    pub default_of : List Pattern → Variants → S.M Text
    default_of path no_variants = S.fails missing_default []
    default_of path (variant k p true vs) = S.enters (length (inner path p)) (elements (inner path p) (has_one p) p)
    default_of path (variant k p false vs) = default_of path vs

    pub written : List Pattern → Inline → S.M Text
    written path (string t) = S.give (unescaped t)
    written path (number t) = S.give (shown b (try_number t))
    written path (function f a) = S.bind (called path a) (λ c. function_text (function f a) (function_found (get f b.ids)) c.0 c.1)
    written path (message m a) = follow env path (message m a) m (message_target (get m b.ids) a)
    written path (term t a c) = S.bind (local_of path c) (λ m. follow (local m) path (term t a c) t (term_target (get t b.ids) a))
    written path (variable v) = variable_text (variable v) (get v (variables env))
    written path (nested e) = expression path e

    pub resolved : List Pattern → Inline → S.M (Value C)
    resolved path (string t) = S.give (text_value (unescaped t))
    resolved path (number t) = S.give (try_number t)
    resolved path (function f a) = S.bind (called path a) (λ c. S.give (function_value (function_found (get f b.ids)) c.0 c.1))
    resolved path (message m a) = as_value (follow env path (message m a) m (message_target (get m b.ids) a))
    resolved path (term t a c) = as_value (S.bind (local_of path c) (λ m. follow (local m) path (term t a c) t (term_target (get t b.ids) a)))
    resolved path (variable v) = variable_value (variable v) (get v (variables env))
    resolved path (nested e) = as_value (expression path e)

    -- the map that a term's named arguments make; the positional ones are resolved and thrown away
    pub local_of : List Pattern → Call → S.M (Map (Value C))
    local_of path no_call = S.give []
    local_of path (call a) = S.bind (called path a) (λ c. S.give c.1)

    -- positional arguments, then named ones, of which the last of a name stands
    pub called : List Pattern → Arguments → S.M (List (Value C) × Map (Value C))
    called path (arguments ps ns) = S.bind (positional path ps) (λ vs. S.bind (named path ns) (λ m. S.give (vs, set_all m [])))

    pub positional : List Pattern → Inlines → S.M (List (Value C))
    positional path no_inlines = S.give []
    positional path (argument x xs) = S.bind (resolved path x) (λ v. S.bind (positional path xs) (λ vs. S.give (v ∷ vs)))

    pub named : List Pattern → Nameds → S.M (List (Text × Value C))
    named path no_nameds = S.give []
    named path (named_argument name x ns) = S.bind (resolved path x) (λ v. S.bind (named path ns) (λ m. S.give ((name, v) ∷ m)))

-- a pattern that is handed in or referred to, by the meaning of those that it refers to
abbrev pub whole : {C : Type 0} (S : Steps) → Bundle C → (Environment C → List Pattern → Pattern → S.M Text) → Environment C → List Pattern → Pattern → S.M Text
whole S b below env path p = S.enters (length (inner path p)) (elements S b below env (inner path p) (has_one p) p)

-- with references followed n deep
abbrev pub deep : {C : Type 0} (S : Steps) → Bundle C → ℕ → Environment C → List Pattern → Pattern → S.M Text
deep S b zero env path p = S.give []
deep S b (suc n) env path p = whole S b (deep S b n) env path p
