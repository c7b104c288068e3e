use Rattle.std.proofs.Common.{ℕ, refl, arith}
use Rattle.std.proofs.lemmas.Simd.{zip2_splat, length-chunk}
use lib.Lanes.{chunk}
use Rattle.fluent_text.specs.Lexical.{is_space}
use Rattle.fluent_syntax.proofs.Lanes.{run_within, run_passes}
use Rattle.fluent_syntax.proofs.parser.lanes.space_lanes.Goals as goal

pub returns-clause-within : goal.returns-clause-within
returns-clause-within c =
    let v = chunk 0 16 c.args.bytes.now in
    let long = length-chunk 0 16 c.args.bytes.now c.requires.room in
    run_within c.args.bytes.now 0 _ _ c.requires.room c.type_inv.bytes c.first_set.ensures _ (zip2_splat {Y = ℕ} _ v 16 32 long)

pub returns-clause-passed : goal.returns-clause-passed
returns-clause-passed c = λ k to.
    let v = chunk 0 16 c.args.bytes.now in
    let long = length-chunk 0 16 c.args.bytes.now c.requires.room in
    run_passes c.args.bytes.now 0 _ _ c.requires.room c.type_inv.bytes c.first_set.ensures _ (zip2_splat {Y = ℕ} _ v 16 32 long)
    (λ x. is_space x 0) refl k (omega arith) (omega arith)
