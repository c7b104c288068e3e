use Rattle.std.proofs.Common.{◌≡◌, ℕ, Option, drop, map}
use Rattle.std.specs.Option.{option_map}
use Rattle.fluent_ast.specs.References.{in_variants, variants_view}
use Rattle.fluent_ast.specs.Tree.{Text, variants_of}
use Rattle.fluent_ast.specs.View.{variant_view}
use Rattle.fluent_intl.specs.Number.{number_of}
use Rattle.fluent_semantics.specs.Bundle.{key_value}
use Rattle.fluent_references.specs.Links.{IsBefore}
use Rattle.fluent_references.specs.Cursors.{seen}
use Rattle.fluent_resolver_state.specs.Choice.{choice, first_default, is_like}
use Rattle.fluent_resolver_state.proofs.variants.first_like.Given as goal

-- the choice among those left is the choice among all, and the cursor stands before them
abbrev pub invariant-loop-variant : goal.invariant-loop-variant
invariant-loop-variant l =
    let vs = variants_of (map variant_view l.variants) in
    let like = is_like l.word (option_map (λ n. number_of n.now) l.number) in
    let among = choice (λ key. like (key_value key)) (first_default vs) in
    record {
      chose : among vs ≡ among (variants_of (map variant_view (drop l.variant-index l.variants)));
      placed : (number : Text → Option ℕ) → IsBefore number (in_variants (variants_view l.variants)) (seen l.cursor) → IsBefore number (in_variants (variants_view (drop l.variant-index l.variants))) (seen l.at);
    }
