use Rattle.std.proofs.Common.{ap, ◌∙◌}
use Rattle.fluent_ast.specs.Tree.{Text}
use Rattle.fluent_semantics.specs.Bundle.{Bundle}
use Rattle.fluent_bundle.specs.BundleView.{meant}
use Rattle.fluent_places.specs.Places.{views}
use Rattle.fluent_lint.proofs.Linted.{linted}
use Rattle.fluent_lint.proofs.linting.lint.Goals as goal

pub returns : goal.returns
returns g c =
    let b : Bundle Text = meant g.M.MemoizerKind.category g.C.FluentType.shown g.C.FluentType.alike g.F.FluentFunction.answer g.G.FluentFormatter.formatted g.T.Transform.changed c.args.bundle.now in
    linted b c.args.resources.now (views c.deref.result.now) c.placeable_limit-limit.result c.lint_places.result
    c.fine_is_written.ensures c.placeable_limit-limit.ensures (ap views c.deref.ensures.value ∙ c.in_ok-places.ensures) c.lint_places.ensures
