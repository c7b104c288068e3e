use Rattle.std.proofs.Common.{sym, ◌∙◌, ap}
use Rattle.std.specs.Option.{option_map}
use Rattle.fluent_ast.specs.View.{pattern_view}
use Rattle.fluent_path.specs.Contents.{above_on, on_path}
use Rattle.fluent_path.proofs.Classed.{among_above, is_later}
use Rattle.fluent_path.proofs.path.Path.is_on.Goals as goal

pub returns : goal.returns
unfolding on_path above_on
returns c = λ table distinct all own.
    let path = c.args.self.now in
    let p = pattern_view c.args.pattern.now in
    let bottom = ap (option_map (λ b. pattern_view b.now)) c.in-Some.is in
    c.is_above.ensures
    ∙ among_above table distinct (above_on path) all p c.args.class own
    ∙ sym (is_later table _ (pattern_view c.in-Some.bottom.now) (above_on path) p c.is_like.result bottom c.is_like.ensures c.if-is_like.false)
