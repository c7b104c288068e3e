use Rattle.std.proofs.Common.{◌≡◌, drop, fold, map}
use Rattle.fluent_ast.specs.Tree.{pattern_of}
use Rattle.fluent_ast.specs.View.{element_view}
use Rattle.fluent_ast.specs.References.{variants_view, inlines_view, nameds_view}
use Rattle.fluent_references.specs.Inside.Hashed.{hashed, hashed_variants, hashed_positional, hashed_named}
use Rattle.fluent_references.proofs.hashing.+hashing.Given as goal

abbrev pub invariant-hash_pattern-loop-element : goal.invariant-hash_pattern-loop-element
invariant-hash_pattern-loop-element g l =
    let left = hashed (pattern_of (map element_view (drop l.element-index l.element-items))) in
    fold g.H.Hasher.write l.state left ≡ fold g.H.Hasher.write l.initial.state (hashed (pattern_of (map element_view l.element-items)))

abbrev pub invariant-hash_variants-loop-variant : goal.invariant-hash_variants-loop-variant
invariant-hash_variants-loop-variant g l =
    let left = hashed_variants (variants_view (drop l.variant-index l.variants)) in
    fold g.H.Hasher.write l.state left ≡ fold g.H.Hasher.write l.initial.state (hashed_variants (variants_view l.variants))

abbrev pub invariant-hash_positional-loop-argument : goal.invariant-hash_positional-loop-argument
invariant-hash_positional-loop-argument g l =
    let left = hashed_positional (inlines_view (drop l.argument-index l.positional)) in
    fold g.H.Hasher.write l.state left ≡ fold g.H.Hasher.write l.initial.state (hashed_positional (inlines_view l.positional))

abbrev pub invariant-hash_named-loop-argument : goal.invariant-hash_named-loop-argument
invariant-hash_named-loop-argument g l =
    let left = hashed_named (nameds_view (drop l.argument-index l.named)) in
    fold g.H.Hasher.write l.state left ≡ fold g.H.Hasher.write l.initial.state (hashed_named (nameds_view l.named))
