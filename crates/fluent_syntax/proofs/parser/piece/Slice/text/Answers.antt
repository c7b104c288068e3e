use Rattle.std.proofs.Common.{◌∙◌, unwrap_or, arith, rules}
use Rattle.fluent_syntax.proofs.Cuts.{boundary-spaces, cut_is}
use Rattle.fluent_syntax.proofs.parser.piece.Slice.text.Goals as goal

pub range_from-requires : goal.range_from-requires
range_from-requires c _ =
    boundary-spaces c.self.inside.whole.now (unwrap_or c.self.inside.indent 0) c.min.result (search rules) c.self.invariant.within c.self.invariant.spaces (search (rules, arith))

pub returns : goal.returns
returns c =
    rw (← c.self.view_is) (c.range_from.ensures.value ∙ cut_is c.self.inside.whole.now c.args.common (unwrap_or c.self.inside.indent 0) c.min.result c.self.invariant.within c.self.invariant.spaces (search (rules, arith)))
