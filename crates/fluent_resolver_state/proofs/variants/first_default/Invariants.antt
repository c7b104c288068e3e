use Rattle.std.proofs.Common.{◌≡◌, ℕ, Option, drop, map}
use Rattle.fluent_ast.specs.References.{in_variants, variants_view}
use Rattle.fluent_ast.specs.Tree.{Text, variants_of}
use Rattle.fluent_ast.specs.View.{variant_view}
use Rattle.fluent_references.specs.Links.{IsBefore}
use Rattle.fluent_references.specs.Cursors.{seen}
use Rattle.fluent_resolver_state.specs.Choice.{first_default}
use Rattle.fluent_resolver_state.proofs.variants.first_default.Given as goal

-- the first default among those left is the first of all, and the cursor stands before them
abbrev pub invariant-loop-variant : goal.invariant-loop-variant
invariant-loop-variant l = record {
  chose : first_default (variants_of (map variant_view l.variants)) ≡ first_default (variants_of (map variant_view (drop l.variant-index l.variants)));
  placed : (number : Text → Option ℕ) → IsBefore number (in_variants (variants_view l.variants)) (seen l.cursor) → IsBefore number (in_variants (variants_view (drop l.variant-index l.variants))) (seen l.at);
}
