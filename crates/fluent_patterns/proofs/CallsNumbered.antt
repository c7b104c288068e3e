-- The calls of a pattern are listed beside its references, one for each.
use Rattle.std.proofs.Common.{◌≡◌, ◌∙◌, ◌+◌, suc, Bool, true, false, List, [], ◌∷◌, ◌++◌, length, refl, sym, ap}
use Rattle.std.specs.List.{filter}
use Rattle.std.proofs.lemmas.List.{append-nil, length-append}
use Rattle.std.proofs.lemmas.List.Elements.{filter-append}
use Rattle.fluent_ast.specs.Tree.{Pattern, nothing, more, Element, text, placeable, Expression, inline, select, Variants, no_variants, variant, Inline, string, number, function, message, term, variable, nested, Call, no_call, call, Arguments, arguments, Inlines, no_inlines, argument, Nameds, no_nameds, named_argument}
use Rattle.fluent_places.specs.Needs as needs
use Rattle.fluent_places.specs.Needs.{Need, a_default, has_default, unless}
use Rattle.fluent_patterns.specs.Numbered.{is_reference, references}
use Rattle.fluent_patterns.specs.Numbers.{calls, in_element, in_expression, in_variants, in_inline, in_call, in_arguments, in_positional, in_named}

abbrev AsMany : List Bool → List Need → Type 0
AsMany xs ns = length xs ≡ length (filter is_reference ns)

joined : (xs ys : List Bool) (ns ms : List Need) → AsMany xs ns → AsMany ys ms → AsMany (xs ++ ys) (ns ++ ms)
joined xs ys ns ms h k =
    length-append xs ys ∙ (ap (λ n. n + length ys) h ∙ (ap (λ n. length (filter is_reference ns) + n) k
    ∙ sym (ap length (filter-append is_reference ns ms) ∙ length-append (filter is_reference ns) (filter is_reference ms))))

-- a default that lacks is no reference
and_default : (xs : List Bool) (ns : List Need) (b : Bool) → AsMany xs ns → AsMany xs (ns ++ unless b a_default)
and_default xs ns true h = h ∙ ap (λ ms. length (filter is_reference ms)) (sym (append-nil ns))
and_default xs ns false h = h ∙ ap length (sym (filter-append is_reference ns (a_default ∷ []) ∙ append-nil (filter is_reference ns)))

mutual
  of_pattern : (p : Pattern) → AsMany (calls p) (needs.needs p)
  of_pattern nothing = refl
  of_pattern (more e p) = joined (in_element e) (calls p) (needs.in_element e) (needs.needs p) (of_element e) (of_pattern p)

  of_element : (e : Element) → AsMany (in_element e) (needs.in_element e)
  of_element (text t) = refl
  of_element (placeable e) = of_expression e

  of_expression : (e : Expression) → AsMany (in_expression e) (needs.in_expression e)
  of_expression (inline x) = of_inline x
  of_expression (select x vs) =
      joined (in_inline x) (in_variants vs) (needs.in_inline x) (needs.in_variants vs ++ unless (has_default vs) a_default) (of_inline x)
      (and_default (in_variants vs) (needs.in_variants vs) (has_default vs) (of_variants vs))

  of_variants : (vs : Variants) → AsMany (in_variants vs) (needs.in_variants vs)
  of_variants no_variants = refl
  of_variants (variant k p d vs) = joined (calls p) (in_variants vs) (needs.needs p) (needs.in_variants vs) (of_pattern p) (of_variants vs)

  of_inline : (x : Inline) → AsMany (in_inline x) (needs.in_inline x)
  of_inline (string t) = refl
  of_inline (number t) = refl
  of_inline (function f a) = ap suc (of_arguments a)
  of_inline (message m a) = refl
  of_inline (term t a c) = ap suc (of_call c)
  of_inline (variable v) = refl
  of_inline (nested e) = of_expression e

  of_call : (c : Call) → AsMany (in_call c) (needs.in_call c)
  of_call no_call = refl
  of_call (call a) = of_arguments a

  of_arguments : (a : Arguments) → AsMany (in_arguments a) (needs.in_arguments a)
  of_arguments (arguments xs ns) = joined (in_positional xs) (in_named ns) (needs.in_positional xs) (needs.in_named ns) (of_positional xs) (of_named ns)

  of_positional : (xs : Inlines) → AsMany (in_positional xs) (needs.in_positional xs)
  of_positional no_inlines = refl
  of_positional (argument x xs) = joined (in_inline x) (in_positional xs) (needs.in_inline x) (needs.in_positional xs) (of_inline x) (of_positional xs)

  of_named : (ns : Nameds) → AsMany (in_named ns) (needs.in_named ns)
  of_named no_nameds = refl
  of_named (named_argument name x ns) = joined (in_inline x) (in_named ns) (needs.in_inline x) (needs.in_named ns) (of_inline x) (of_named ns)

pub as_many : (p : Pattern) → length (calls p) ≡ length (references p)
as_many p = of_pattern p
