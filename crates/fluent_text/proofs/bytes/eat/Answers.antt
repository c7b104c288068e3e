use Rattle.std.proofs.Common.{◌<◌, get_or, arith}
use Rattle.fluent_text.specs.Facts.Runs.{boundary-one}
use Rattle.fluent_text.proofs.bytes.eat.Goals as goal

pub range_from-requires : goal.range_from-requires
range_from-requires c _ =
    let s = c.args.s.now in
    let some : 0 < get_or s 0 0 = omega arith in
    let ascii : get_or s 0 0 < 128 = omega arith in
    boundary-one s c.utf8.s some ascii
