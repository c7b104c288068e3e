use Rattle.std.proofs.Common.{refl}
use Rattle.std.proofs.lemmas.Simd.{zip2_splat, zip2_of_maps, length-chunk}
use lib.Lanes.{chunk}
use Rattle.memchr.specs.Find.{is_byte3}
use Rattle.fluent_syntax.proofs.Lanes.{run_within, run_free, run_stops}
use Rattle.fluent_syntax.proofs.parser.lanes.plain_lanes.Goals as goal

pub returns-clause-within : goal.returns-clause-within
returns-clause-within c =
    let v = chunk c.args.at 16 c.args.bytes.now in
    let long = length-chunk c.args.at 16 c.args.bytes.now c.requires.room in
    run_within c.args.bytes.now c.args.at _ _ c.requires.room c.type_inv.bytes c.first_set.ensures _
    (zip2_of_maps _ _ _ v (zip2_splat _ v 16 10 long) (zip2_of_maps _ _ _ v (zip2_splat _ v 16 123 long) (zip2_splat _ v 16 125 long)))

pub returns-clause-passed : goal.returns-clause-passed
returns-clause-passed c =
    let v = chunk c.args.at 16 c.args.bytes.now in
    let long = length-chunk c.args.at 16 c.args.bytes.now c.requires.room in
    run_free c.args.bytes.now c.args.at _ _ c.requires.room c.type_inv.bytes c.first_set.ensures _
    (zip2_of_maps _ _ _ v (zip2_splat _ v 16 10 long) (zip2_of_maps _ _ _ v (zip2_splat _ v 16 123 long) (zip2_splat _ v 16 125 long))) (is_byte3 10 123 125) refl

pub returns-clause-stops : goal.returns-clause-stops
returns-clause-stops c =
    let v = chunk c.args.at 16 c.args.bytes.now in
    let long = length-chunk c.args.at 16 c.args.bytes.now c.requires.room in
    run_stops c.args.bytes.now c.args.at _ _ c.requires.room c.type_inv.bytes c.first_set.ensures _
    (zip2_of_maps _ _ _ v (zip2_splat _ v 16 10 long) (zip2_of_maps _ _ _ v (zip2_splat _ v 16 123 long) (zip2_splat _ v 16 125 long))) (is_byte3 10 123 125) refl
