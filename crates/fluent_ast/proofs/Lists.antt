-- The lists of the specification tree are equal only if their elements are.
use Rattle.std.proofs.Common.{◌≡◌, List, [], ◌∷◌, refl, ap, ◌∙◌}
use Rattle.fluent_ast.specs.Tree.{Element, Inline, Named, Variant, pattern_of, variants_of, inlines_of, nameds_of}

pub pattern_of-same : (xs ys : List Element) → pattern_of xs ≡ pattern_of ys → xs ≡ ys
pattern_of-same [] [] h = refl
pattern_of-same [] (y ∷ ys) h = absurd cc
pattern_of-same (x ∷ xs) [] h = absurd cc
pattern_of-same (x ∷ xs) (y ∷ ys) h = let t = pattern_of-same xs ys (cc) in cc

pub inlines_of-same : (xs ys : List Inline) → inlines_of xs ≡ inlines_of ys → xs ≡ ys
inlines_of-same [] [] h = refl
inlines_of-same [] (y ∷ ys) h = absurd cc
inlines_of-same (x ∷ xs) [] h = absurd cc
inlines_of-same (x ∷ xs) (y ∷ ys) h = let t = inlines_of-same xs ys (cc) in cc

pub nameds_of-same : (xs ys : List Named) → nameds_of xs ≡ nameds_of ys → xs ≡ ys
nameds_of-same [] [] h = refl
nameds_of-same [] (y ∷ ys) h = absurd cc
nameds_of-same (x ∷ xs) [] h = absurd cc
nameds_of-same (x ∷ xs) (y ∷ ys) h =
    let t = nameds_of-same xs ys (cc) in
    let a : x.0 ≡ y.0 = cc in
    let b : x.1 ≡ y.1 = cc in
    let e : x ≡ y = ap (λ z. (z, x.1)) a ∙ ap (λ z. (y.0, z)) b in
    cc

pub variants_of-same : (xs ys : List Variant) → variants_of xs ≡ variants_of ys → xs ≡ ys
variants_of-same [] [] h = refl
variants_of-same [] (y ∷ ys) h = absurd cc
variants_of-same (x ∷ xs) [] h = absurd cc
variants_of-same (x ∷ xs) (y ∷ ys) h =
    let t = variants_of-same xs ys (cc) in
    let a : x.0 ≡ y.0 = cc in
    let b : x.1 ≡ y.1 = cc in
    let d : x.2 ≡ y.2 = cc in
    let e : ◌≡◌ {A = Variant} x y = ap (λ z. (z, x.1, x.2)) a ∙ (ap (λ z. (y.0, z, x.2)) b ∙ ap (λ z. (y.0, y.1, z)) d) in
    cc

pub ruleset lists = (pattern_of-same, inlines_of-same, nameds_of-same, variants_of-same)
