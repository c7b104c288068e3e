use Rattle.std.proofs.Common.{◌≡◌, ◌+◌, true, false, unwrap_or, arith, rules}
use Rattle.std.proofs.lemmas.Bool.Decides.{nat_tests}
use Rattle.fluent_syntax.proofs.Words.{boundary-after, boundary-feed, words_after-is}
use Rattle.fluent_syntax.specs.Pieces.{follows}
use Rattle.fluent_syntax.proofs.parser.piece.Slice.read.Goals as goal

pub split_at-requires : goal.split_at-requires
split_at-requires c =
    boundary-after c.args.line.now c.args.text.now (unwrap_or c.args.indent 0) c.unwrap_or.result c.run_len-len.result c.requires.follows c.requires.within (search rules) c.utf8.text c.run_len-len.ensures.len

pub range-requires-clause-end_boundary : goal.range-requires-clause-end_boundary
range-requires-clause-end_boundary c =
    boundary-feed c.args.line.now c.split_at.result.0.now c.split_at.result.1.now (c.unwrap_or.result + c.run_len-len.result) c.utf8.line (search rules) (search rules) (search rules) (omega arith)

pub returns-then-byte_at-eq10-clause-gives : goal.returns-then-byte_at-eq10-clause-gives
returns-then-byte_at-eq10-clause-gives c =
    let fed : true ≡ follows 10 c.split_at.result.1.now = grind (arith, nat_tests) in
    words_after-is c.args.indent c.args.line.now c.args.text.now c.split_at.result.0.now c.split_at.result.1.now (unwrap_or c.args.indent 0) c.run_len-len.result true c.requires.follows c.run_len-len.ensures.len (omega arith) (search rules) (search rules) fed

pub returns-clause-gives : goal.returns-clause-gives
returns-clause-gives c =
    let fed : false ≡ follows 10 c.split_at.result.1.now = grind (arith, nat_tests) in
    words_after-is c.args.indent c.args.line.now c.args.text.now c.split_at.result.0.now c.split_at.result.1.now (unwrap_or c.args.indent 0) c.run_len-len.result false c.requires.follows c.run_len-len.ensures.len (omega arith) (search rules) (search rules) fed
