-- The more the patterns below open, the more a pattern opens.
use Rattle.std.proofs.Common.{ℕ, zero, suc, ◌≤◌, arith}
use Rattle.fluent_ast.specs.Tree.{Pattern, nothing, more, Element, text, placeable, Expression, inline, select, Variants, no_variants, variant, Inline, string, number, function, message, term, variable, nested, Call, no_call, call, Arguments, arguments, Inlines, no_inlines, argument, Nameds, no_nameds, named_argument}
use Rattle.fluent_semantics.specs.Bundle.{Target, unknown, without_value, found, message_target, term_target}
use Rattle.fluent_places.specs.Places.{Names}
use Rattle.fluent_clean.specs.Clean.{at_target, at_place, most_in_pattern, most_in_element, most_in_expression, most_in_variants, most_in_inline, most_in_call, most_in_arguments, most_in_positional, most_in_named, placeables_deep}

module _ {C : Type 0} (ids : Names C) (less higher : Pattern → ℕ) (below : (p : Pattern) → less p ≤ higher p) where
  target_more : (t : Target) → at_target less t ≤ at_target higher t
  target_more unknown = omega arith
  target_more without_value = omega arith
  target_more (found q) = below q

  mutual
    pub pattern_more : (p : Pattern) → most_in_pattern (at_place ids less) p ≤ most_in_pattern (at_place ids higher) p
    pattern_more nothing = omega arith
    pattern_more (more e p) = omega (arith, element_more e, pattern_more p)

    element_more : (e : Element) → most_in_element (at_place ids less) e ≤ most_in_element (at_place ids higher) e
    element_more (text t) = omega arith
    element_more (placeable e) = omega (arith, expression_more e)

    expression_more : (e : Expression) → most_in_expression (at_place ids less) e ≤ most_in_expression (at_place ids higher) e
    expression_more (inline x) = inline_more x
    expression_more (select x vs) = omega (arith, inline_more x, variants_more vs)

    variants_more : (vs : Variants) → most_in_variants (at_place ids less) vs ≤ most_in_variants (at_place ids higher) vs
    variants_more no_variants = omega arith
    variants_more (variant k p d vs) = omega (arith, pattern_more p, variants_more vs)

    inline_more : (x : Inline) → most_in_inline (at_place ids less) x ≤ most_in_inline (at_place ids higher) x
    inline_more (string t) = omega arith
    inline_more (number t) = omega arith
    inline_more (function f a) = arguments_more a
    inline_more (message m a) = target_more (message_target (ids m) a)
    inline_more (term t a c) = omega (arith, call_more c, target_more (term_target (ids t) a))
    inline_more (variable v) = omega arith
    inline_more (nested e) = expression_more e

    call_more : (c : Call) → most_in_call (at_place ids less) c ≤ most_in_call (at_place ids higher) c
    call_more no_call = omega arith
    call_more (call a) = arguments_more a

    arguments_more : (a : Arguments) → most_in_arguments (at_place ids less) a ≤ most_in_arguments (at_place ids higher) a
    arguments_more (arguments xs ns) = omega (arith, positional_more xs, named_more ns)

    positional_more : (xs : Inlines) → most_in_positional (at_place ids less) xs ≤ most_in_positional (at_place ids higher) xs
    positional_more no_inlines = omega arith
    positional_more (argument x xs) = omega (arith, inline_more x, positional_more xs)

    named_more : (ns : Nameds) → most_in_named (at_place ids less) ns ≤ most_in_named (at_place ids higher) ns
    named_more no_nameds = omega arith
    named_more (named_argument name x ns) = omega (arith, inline_more x, named_more ns)

module _ {C : Type 0} (ids : Names C) where
  pub deepened : (n : ℕ) (p : Pattern) → placeables_deep ids n p ≤ placeables_deep ids (suc n) p
  unfolding placeables_deep
  deepened zero p = omega arith
  deepened (suc n) p = pattern_more ids (placeables_deep ids n) (placeables_deep ids (suc n)) (deepened n) p
