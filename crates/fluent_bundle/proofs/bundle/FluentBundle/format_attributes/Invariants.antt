use Rattle.std.proofs.Common.{◌≡◌, map, take}
use Rattle.fluent_ast.specs.View.{attribute_view}
use Rattle.fluent_bundle.specs.BundleView.{meant}
use Rattle.fluent_bundle.specs.Formatted.{AddsAll, attribute_errors, attribute_shown, attribute_texts}
use Rattle.fluent_resolver_state.specs.Status.{arguments_view}
use Rattle.fluent_bundle.proofs.bundle.FluentBundle.format_attributes.Given as goal

-- the texts and the errors of the attributes so far
abbrev pub invariant-loop-attribute : goal.invariant-loop-attribute
invariant-loop-attribute g l =
    let b = meant g.M.MemoizerKind.category g.C.FluentType.shown g.C.FluentType.alike g.F.FluentFunction.answer g.G.FluentFormatter.formatted g.T.Transform.changed l.self in
    let args = arguments_view g.C.FluentType.content l.args in
    let done = map attribute_view (take l.attribute-index l.list) in
    record {
      texts : map attribute_shown l.texts.items ≡ attribute_texts b args done;
      errors : AddsAll (attribute_errors b args done) l.fn.errors.items l.errors.items;
    }
