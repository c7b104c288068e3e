use Rattle.std.proofs.Common.{◌∙◌, sym}
use Rattle.std.specs.Option.{option_map}
use Rattle.fluent_ast.specs.View.{pattern_view}
use Rattle.fluent_path.specs.Facts.{always, some_above, taken_top}
use Rattle.fluent_path.specs.Contents.{above_of, above_on, below_top, on_path}
use Rattle.fluent_path.proofs.path.Path.leave.Goals as goal

pub returns-then-is_some-clause-left : goal.returns-then-is_some-clause-left
unfolding on_path above_on below_top
returns-then-is_some-clause-left c =
    let path = c.args.self.now in
    always c.args.put (λ table. taken_top table (option_map (λ b. pattern_view b.now) path.bottom) (option_map above_of path.top) (below_top path) (some_above path.top ∙ sym c.is_some.ensures ∙ c.if-is_some.true))
