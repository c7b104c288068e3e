use Rattle.std.proofs.Common.{ℕ, leb, cond, bit_and, refl, arith}
use Rattle.std.proofs.lemmas.Simd.{zip2_splat, zip2_of_maps, splat_is_map, length-chunk}
use lib.Lanes.{chunk}
use Rattle.fluent_text.specs.Lexical.{is_identifier_byte}
use Rattle.fluent_syntax.proofs.Lanes.{run_within, run_passes}
use Rattle.fluent_syntax.proofs.parser.lanes.name_lanes.Goals as goal

pub returns-clause-within : goal.returns-clause-within
returns-clause-within c =
    let v = chunk 0 16 c.args.bytes.now in
    let long = length-chunk 0 16 c.args.bytes.now c.requires.room in
    run_within c.args.bytes.now 0 _ _ c.requires.room c.type_inv.bytes c.first_set.ensures _
    (zip2_of_maps bit_and _ _ v
    (zip2_of_maps bit_and _ _ v
    (zip2_of_maps (λ a b. cond (leb a b) 255 0) _ _ v (splat_is_map v 16 26 long) (zip2_of_maps _ _ _ v (zip2_splat {Y = ℕ} _ v 16 32 long) (splat_is_map v 16 97 long)))
    (zip2_of_maps (λ a b. cond (leb a b) 255 0) _ _ v (splat_is_map v 16 10 long) (zip2_splat {Y = ℕ} _ v 16 48 long)))
    (zip2_splat {Y = ℕ} _ v 16 45 long))

pub returns-clause-passed : goal.returns-clause-passed
returns-clause-passed c = λ k to.
    let v = chunk 0 16 c.args.bytes.now in
    let long = length-chunk 0 16 c.args.bytes.now c.requires.room in
    run_passes c.args.bytes.now 0 _ _ c.requires.room c.type_inv.bytes c.first_set.ensures _
    (zip2_of_maps bit_and _ _ v
    (zip2_of_maps bit_and _ _ v
    (zip2_of_maps (λ a b. cond (leb a b) 255 0) _ _ v (splat_is_map v 16 26 long) (zip2_of_maps _ _ _ v (zip2_splat {Y = ℕ} _ v 16 32 long) (splat_is_map v 16 97 long)))
    (zip2_of_maps (λ a b. cond (leb a b) 255 0) _ _ v (splat_is_map v 16 10 long) (zip2_splat {Y = ℕ} _ v 16 48 long)))
    (zip2_splat {Y = ℕ} _ v 16 45 long))
    (λ x. is_identifier_byte x 0) refl k (omega arith) (omega arith)
