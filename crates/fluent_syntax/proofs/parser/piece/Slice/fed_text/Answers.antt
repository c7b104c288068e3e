use Rattle.std.proofs.Common.{◌≡◌, ◌≤◌, ◌++◌, [], ◌∷◌, length, length-append, ◌∙◌, ap, unwrap_or, arith, rules}
use Rattle.fluent_syntax.proofs.Cuts.{boundary-spaces, cut_fed_is, spaces_fed}
use Rattle.fluent_syntax.proofs.parser.piece.Slice.fed_text.Goals as goal

pub range_from-requires : goal.range_from-requires
range_from-requires c _ =
    let f : c.in_ok-fed.fed.now ≡ c.self.inside.whole.now ++ 10 ∷ [] = search rules in
    let w : unwrap_or c.self.inside.indent 0 ≤ length c.in_ok-fed.fed.now = omega (arith, c.self.invariant.within, ap length f, length-append c.self.inside.whole.now (10 ∷ [])) in
    boundary-spaces c.in_ok-fed.fed.now (unwrap_or c.self.inside.indent 0) c.min.result (search rules) w (spaces_fed c.self.inside.whole.now _ _ c.self.invariant.within c.self.invariant.spaces f) (search (rules, arith))

pub returns : goal.returns
returns c =
    let f : c.in_ok-fed.fed.now ≡ c.self.inside.whole.now ++ 10 ∷ [] = search rules in
    rw (← c.self.view_is) (search rules, c.range_from.ensures.value ∙ cut_fed_is c.self.inside.whole.now c.in_ok-fed.fed.now c.args.common (unwrap_or c.self.inside.indent 0) c.min.result c.self.invariant.within c.self.invariant.spaces (search (rules, arith)) f)
