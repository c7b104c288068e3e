-- What is counted when all parts are.
use Rattle.std.proofs.Common.{◌≡◌, ℕ, ◌+◌, ◌-◌, ◌≤◌, ◌^◌, max, List, [], length, drop, map, refl, arith}
use Rattle.std.proofs.lemmas.List.{at_drop_all}
use Rattle.fluent_ast.specs.Tree.{pattern_of}
use Rattle.fluent_ast.specs.View.{element_view}
use Rattle.fluent_ast.specs.References.{inlines_view, nameds_view, variants_view}
use Rattle.fluent_ast.specs.declared.ast.InlineExpression.{InlineExpression}
use Rattle.fluent_ast.specs.declared.ast.NamedArgument.{NamedArgument}
use Rattle.fluent_ast.specs.declared.ast.PatternElement.{PatternElement}
use Rattle.fluent_ast.specs.declared.ast.Variant.{Variant}
use Rattle.fluent_clean.specs.Clean.{most_in_pattern, most_in_variants, most_in_positional, most_in_named}
use Rattle.fluent_clean.specs.Findings.{capped}
use Rattle.fluent_clean.specs.Inside.Table.{Known, count_of}

sum_end : {A : Type 0} (opened : List A → ℕ) (xs : List A) (i total whole : ℕ) → opened [] ≡ 0 → length xs ≤ i → total ≤ 2 ^ 64 - 1 → capped whole ≡ capped (total + opened (drop i xs)) → total ≡ capped whole
sum_end opened xs i total whole none h small e = let left = at_drop_all opened xs i h in omega (arith, none, left, small, e)

largest_end : {A : Type 0} (opened : List A → ℕ) (xs : List A) (i total whole : ℕ) → opened [] ≡ 0 → length xs ≤ i → total ≤ 2 ^ 64 - 1 → capped whole ≡ capped (max total (opened (drop i xs))) → total ≡ capped whole
largest_end opened xs i total whole none h small e = let left = at_drop_all opened xs i h in omega (arith, none, left, small, e)

pub elements_counted : (known : Known) (xs : List PatternElement) (i total whole : ℕ) → length xs ≤ i → total ≤ 2 ^ 64 - 1
    → capped whole ≡ capped (total + most_in_pattern (count_of known) (pattern_of (map element_view (drop i xs)))) → total ≡ capped whole
elements_counted known xs i total whole = sum_end (λ ys. most_in_pattern (count_of known) (pattern_of (map element_view ys))) xs i total whole refl

pub variants_counted : (known : Known) (xs : List Variant) (i total whole : ℕ) → length xs ≤ i → total ≤ 2 ^ 64 - 1
    → capped whole ≡ capped (max total (most_in_variants (count_of known) (variants_view (drop i xs)))) → total ≡ capped whole
variants_counted known xs i total whole = largest_end (λ ys. most_in_variants (count_of known) (variants_view ys)) xs i total whole refl

pub positional_counted : (known : Known) (xs : List InlineExpression) (i total whole : ℕ) → length xs ≤ i → total ≤ 2 ^ 64 - 1
    → capped whole ≡ capped (total + most_in_positional (count_of known) (inlines_view (drop i xs))) → total ≡ capped whole
positional_counted known xs i total whole = sum_end (λ ys. most_in_positional (count_of known) (inlines_view ys)) xs i total whole refl

pub named_counted : (known : Known) (xs : List NamedArgument) (i total whole : ℕ) → length xs ≤ i → total ≤ 2 ^ 64 - 1
    → capped whole ≡ capped (total + most_in_named (count_of known) (nameds_view (drop i xs))) → total ≡ capped whole
named_counted known xs i total whole = sum_end (λ ys. most_in_named (count_of known) (nameds_view ys)) xs i total whole refl
