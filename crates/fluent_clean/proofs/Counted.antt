-- A pattern opens at most as many placeables as its tree says.
use Rattle.std.proofs.Common.{ℕ, zero, suc, ◌≤◌, List, [], ◌∷◌, ◌++◌, Bool, true, false, Option, Some, None, arith}
use Rattle.fluent_ast.specs.Tree.{Text, Pattern, nothing, more, Element, text, placeable, Expression, inline, select, Variants, no_variants, variant, Inline, string, number, function, message, term, variable, nested, Call, no_call, call, Arguments, arguments, Inlines, no_inlines, argument, Nameds, no_nameds, named_argument}
use Rattle.fluent_ast.specs.Fallback.{fallback, in_braces}
use Rattle.fluent_semantics.specs.Errors.{Reference, reference_of}
use Rattle.fluent_semantics.specs.Value as values
use Rattle.fluent_semantics.specs.Value.{Value, text_value, number_value, custom_value, error_value}
use Rattle.fluent_semantics.specs.Arguments.{Map, get}
use Rattle.fluent_semantics.specs.Bundle.{Bundle, Function, Target, unknown, without_value, found, message_target, term_target, function_found, goes_to}
use Rattle.fluent_semantics.specs.Walk.{Environment, application, local, variables, is_on, inner, has_one, loses_as, go, follow, missing, variable_text, variable_value, answer_text, function_text, elements, part, expression, matched, default_of, written, resolved, local_of, called, positional, named, deep}
use Rattle.fluent_semantics.specs.Meaning.{Outcome, by_substitution, substituted, meaning, settling}
use Rattle.fluent_places.specs.Places.{names_of}
use Rattle.fluent_clean.specs.Clean.{at_target, at_place, most_in_pattern, most_in_element, most_in_expression, most_in_variants, most_in_inline, most_in_call, most_in_arguments, most_in_positional, most_in_named, placeables_deep, placeables}

abbrev OpensUpTo : ℕ → Outcome Text → Type 0
OpensUpTo k o = o.opened ≤ k

module _ {C : Type 0} (b : Bundle C) (below : Environment C → List Pattern → Pattern → Outcome Text) (count : Pattern → ℕ) (counted : (env : Environment C) (path : List Pattern) (p : Pattern) → (below env path p).opened ≤ count p) (env : Environment C) where
  loses_as_opens : (e : Environment C) (r : Option Reference) (t : Text) → (loses_as by_substitution b below e r t).opened ≤ 0
  loses_as_opens e None t = omega arith
  loses_as_opens e (Some r) t = omega arith

  go_opens : (on : Bool) (env' : Environment C) (path : List Pattern) (x : Inline) (q : Pattern) → (go by_substitution b below env on env' path x q).opened ≤ count q
  go_opens true env' path x q = omega arith
  go_opens false env' path x q = counted env' (path ++ q ∷ []) q

  follow_opens : (env' : Environment C) (path : List Pattern) (x : Inline) (id : Text) (t : Target) → (follow by_substitution b below env env' path x id t).opened ≤ at_target count t
  follow_opens env' path x id unknown = loses_as_opens env (reference_of x) (in_braces (fallback x))
  follow_opens env' path x id without_value = omega arith
  follow_opens env' path x id (found q) = go_opens (is_on path q) env' path x q

  missing_opens : (e : Environment C) (x : Inline) → (missing by_substitution b below e e x).opened ≤ 0
  missing_opens (application m) x = loses_as_opens (application m) (reference_of x) (in_braces (fallback x))
  missing_opens (local m) x = omega arith

  variable_text_opens : (x : Inline) (o : Option (Value C)) → (variable_text by_substitution b below env x o).opened ≤ 0
  variable_text_opens x None = missing_opens env x
  variable_text_opens x (Some v) = omega arith

  variable_value_opens : (x : Inline) (o : Option (Value C)) → (variable_value by_substitution b below env x o).opened ≤ 0
  variable_value_opens x None = omega (arith, missing_opens env x)
  variable_value_opens x (Some v) = omega arith

  answer_opens : (x : Inline) (v : Value C) → (answer_text by_substitution b below env x v).opened ≤ 0
  answer_opens x (text_value v) = omega arith
  answer_opens x (number_value v) = omega arith
  answer_opens x (custom_value v) = omega arith
  answer_opens x values.no_value = omega arith
  answer_opens x error_value = omega arith

  function_opens : (x : Inline) (f : Option (Function C)) (vs : List (Value C)) (m : Map (Value C)) → (function_text by_substitution b below env x f vs m).opened ≤ 0
  function_opens x None vs m = loses_as_opens env (reference_of x) (in_braces (fallback x))
  function_opens x (Some f) vs m = answer_opens x (f vs m)

  mutual
    unfolding elements

    pub elements_open : (path : List Pattern) (one : Bool) (p : Pattern) → (elements by_substitution b below env path one p).opened ≤ most_in_pattern (at_place (names_of b) count) p
    elements_open path one nothing = omega arith
    elements_open path one (more e p) = omega (arith, part_opens path one e, elements_open path one p)

    part_opens : (path : List Pattern) (one : Bool) (e : Element) → (part by_substitution b below env path one e).opened ≤ most_in_element (at_place (names_of b) count) e
    part_opens path one (text t) = omega arith
    part_opens path one (placeable e) = omega (arith, expression_opens path e)

    expression_opens : (path : List Pattern) (e : Expression) → (expression by_substitution b below env path e).opened ≤ most_in_expression (at_place (names_of b) count) e
    expression_opens path (inline x) = written_opens path x
    expression_opens path (select x vs) =
        let m = resolved by_substitution b below env path x in
        omega (arith, resolved_opens path x, matched_opens path m.value (default_of by_substitution b below env path vs) (most_in_variants (at_place (names_of b) count) vs) vs (default_opens path vs) (omega arith))

    matched_opens : (path : List Pattern) (v : Value C) (m : Outcome Text) (k : ℕ) (vs : Variants) → m.opened ≤ k → most_in_variants (at_place (names_of b) count) vs ≤ k → (matched by_substitution b below env path v m vs).opened ≤ k
    matched_opens path v m k no_variants h j = h
    matched_opens path v m k (variant key p d vs) h j =
        elim (goes_to b v key) as (λ y. OpensUpTo k (elim y [ true ↦ elements by_substitution b below env (inner path p) (has_one p) p | false ↦ matched by_substitution b below env path v m vs ])) [
          | true ↦ omega (arith, elements_open (inner path p) (has_one p) p)
          | false ↦ matched_opens path v m k vs h (omega arith)
        ]

    default_opens : (path : List Pattern) (vs : Variants) → (default_of by_substitution b below env path vs).opened ≤ most_in_variants (at_place (names_of b) count) vs
    default_opens path no_variants = omega arith
    default_opens path (variant k p true vs) = omega (arith, elements_open (inner path p) (has_one p) p)
    default_opens path (variant k p false vs) = omega (arith, default_opens path vs)

    written_opens : (path : List Pattern) (x : Inline) → (written by_substitution b below env path x).opened ≤ most_in_inline (at_place (names_of b) count) x
    written_opens path (string t) = omega arith
    written_opens path (number t) = omega arith
    written_opens path (function f a) =
        let c = called by_substitution b below env path a in
        omega (arith, called_opens path a, function_opens (function f a) (function_found (get f b.ids)) c.value.0 c.value.1)
    written_opens path (message m a) = follow_opens env path (message m a) m (message_target (get m b.ids) a)
    written_opens path (term t a c) =
        let l = local_of by_substitution b below env path c in
        omega (arith, local_opens path c, follow_opens (local l.value) path (term t a c) t (term_target (get t b.ids) a))
    written_opens path (variable v) = variable_text_opens (variable v) (get v (variables env))
    written_opens path (nested e) = expression_opens path e

    resolved_opens : (path : List Pattern) (x : Inline) → (resolved by_substitution b below env path x).opened ≤ most_in_inline (at_place (names_of b) count) x
    resolved_opens path (string t) = omega arith
    resolved_opens path (number t) = omega arith
    resolved_opens path (function f a) = omega (arith, called_opens path a)
    resolved_opens path (message m a) = omega (arith, follow_opens env path (message m a) m (message_target (get m b.ids) a))
    resolved_opens path (term t a c) =
        let l = local_of by_substitution b below env path c in
        omega (arith, local_opens path c, follow_opens (local l.value) path (term t a c) t (term_target (get t b.ids) a))
    resolved_opens path (variable v) = variable_value_opens (variable v) (get v (variables env))
    resolved_opens path (nested e) = omega (arith, expression_opens path e)

    local_opens : (path : List Pattern) (c : Call) → (local_of by_substitution b below env path c).opened ≤ most_in_call (at_place (names_of b) count) c
    local_opens path no_call = omega arith
    local_opens path (call a) = omega (arith, called_opens path a)

    called_opens : (path : List Pattern) (a : Arguments) → (called by_substitution b below env path a).opened ≤ most_in_arguments (at_place (names_of b) count) a
    called_opens path (arguments xs ns) = omega (arith, positional_opens path xs, named_opens path ns)

    positional_opens : (path : List Pattern) (xs : Inlines) → (positional by_substitution b below env path xs).opened ≤ most_in_positional (at_place (names_of b) count) xs
    positional_opens path no_inlines = omega arith
    positional_opens path (argument x xs) = omega (arith, resolved_opens path x, positional_opens path xs)

    named_opens : (path : List Pattern) (ns : Nameds) → (named by_substitution b below env path ns).opened ≤ most_in_named (at_place (names_of b) count) ns
    named_opens path no_nameds = omega arith
    named_opens path (named_argument name x ns) = omega (arith, resolved_opens path x, named_opens path ns)

module _ {C : Type 0} (b : Bundle C) where
  deep_opens : (n : ℕ) (env : Environment C) (path : List Pattern) (p : Pattern) → (deep by_substitution b n env path p).opened ≤ placeables_deep (names_of b) n p
  unfolding placeables_deep
  deep_opens zero env path p = omega arith
  deep_opens (suc n) env path p = elements_open b (deep by_substitution b n) (placeables_deep (names_of b) n) (deep_opens n) env (inner path p) (has_one p) p

  pub meaning_opens : (env : Environment C) (path : List Pattern) (p : Pattern) → (meaning b env path p).opened ≤ placeables b p
  unfolding substituted
  meaning_opens env path p = deep_opens (settling b) env path p
