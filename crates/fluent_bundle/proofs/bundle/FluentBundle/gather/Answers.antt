use Rattle.std.proofs.Common.{◌≡◌, sym, ap, subst, ◌∙◌, ◌++◌, append-nil}
use Rattle.std.proofs.lemmas.Result.{IfOk-from_err}
use Rattle.std.specs.Option.{option_map}
use Rattle.fluent_ast.specs.Tree.{Text}
use Rattle.fluent_ast.specs.View.{pattern_view}
use Rattle.fluent_semantics.specs.Bundle.{transform_of}
use Rattle.fluent_semantics.specs.Result.{written_pattern}
use Rattle.fluent_bundle_entries.specs.Texts.{texts_of}
use Rattle.fluent_resolver_state.specs.Status.{arguments_view, reported}
use Rattle.fluent_bundle.specs.BundleView.{meant, transform_in}
use Rattle.fluent_bundle.specs.Formatted.{AddsAll}
use Rattle.fluent_bundle.proofs.Events.{texts_errors, texts_value}
use Rattle.fluent_bundle.proofs.Givings.{no_prefix_added, texts_where}
use Rattle.fluent_bundle.proofs.bundle.FluentBundle.gather.Goals as goal

pub returns-in_err-text-clause-prefix : goal.returns-in_err-text-clause-prefix
returns-in_err-text-clause-prefix g c = no_prefix_added _ _

pub returns-in_err-push_texts-clause-prefix : goal.returns-in_err-push_texts-clause-prefix
returns-in_err-push_texts-clause-prefix g c = no_prefix_added _ _

pub returns-then-writes_texts_alone-clause-text : goal.returns-then-writes_texts_alone-clause-text
returns-then-writes_texts_alone-clause-text g c =
    let self = c.args.self.now in
    let b = meant g.M.MemoizerKind.category g.C.FluentType.shown g.C.FluentType.alike g.F.FluentFunction.answer g.G.FluentFormatter.formatted g.T.Transform.changed self in
    let p = pattern_view c.args.pattern.now in
    let here = texts_where (transform_in self) p (sym c.writes_texts_alone.ensures ∙ c.if-writes_texts_alone.true) in
    let plain : (u : Text) → b.transform u ≡ u = λ u. ap (λ o. transform_of (option_map g.T.Transform.changed o) u) here.0 in
    c.in_ok-push_texts.ensures.whole ∙ ap (λ t. t ++ texts_of p) c.in_ok-text.ensures.bytes
    ∙ texts_value b (arguments_view g.C.FluentType.content c.args.args) p (c.events_are_the_run.ensures _ _ _) plain here.1

pub returns-then-writes_texts_alone-clause-errors : goal.returns-then-writes_texts_alone-clause-errors
returns-then-writes_texts_alone-clause-errors g c =
    let self = c.args.self.now in
    let b = meant g.M.MemoizerKind.category g.C.FluentType.shown g.C.FluentType.alike g.F.FluentFunction.answer g.G.FluentFormatter.formatted g.T.Transform.changed self in
    let p = pattern_view c.args.pattern.now in
    let list = c.args.errors.now.items in
    let here = texts_where (transform_in self) p (sym c.writes_texts_alone.ensures ∙ c.if-writes_texts_alone.true) in
    let plain : (u : Text) → b.transform u ≡ u = λ u. ap (λ o. transform_of (option_map g.T.Transform.changed o) u) here.0 in
    subst (λ es. AddsAll es list list)
    (texts_errors b (arguments_view g.C.FluentType.content c.args.args) p (c.events_are_the_run.ensures _ _ _) plain here.1)
    (record { added = sym (append-nil (reported list)) })

pub returns-then-writes_texts_alone-clause-prefix : goal.returns-then-writes_texts_alone-clause-prefix
returns-then-writes_texts_alone-clause-prefix g c = no_prefix_added _ _

pub returns-in_err-text-clause-text : goal.returns-in_err-text-clause-text
returns-in_err-text-clause-text g c = IfOk-from_err c.from_residual.result _ c.from_residual.ensures.0

pub returns-in_err-text-clause-errors : goal.returns-in_err-text-clause-errors
returns-in_err-text-clause-errors g c = IfOk-from_err c.from_residual.result _ c.from_residual.ensures.0

pub returns-in_err-push_texts-clause-text : goal.returns-in_err-push_texts-clause-text
returns-in_err-push_texts-clause-text g c = IfOk-from_err c.from_residual-in_err-push_texts.result _ c.from_residual-in_err-push_texts.ensures.0

pub returns-in_err-push_texts-clause-errors : goal.returns-in_err-push_texts-clause-errors
returns-in_err-push_texts-clause-errors g c = IfOk-from_err c.from_residual-in_err-push_texts.result _ c.from_residual-in_err-push_texts.ensures.0

pub returns-in-Ok-clause-text : goal.returns-in-Ok-clause-text
returns-in-Ok-clause-text g c =
    let b = meant g.M.MemoizerKind.category g.C.FluentType.shown g.C.FluentType.alike g.F.FluentFunction.answer g.G.FluentFormatter.formatted g.T.Transform.changed c.args.self.now in
    let all = (written_pattern b (arguments_view g.C.FluentType.content c.args.args) (pattern_view c.args.pattern.now)).value in
    c.in-Ok.ensures.text ∙ ap (λ t. t ++ all) c.in_ok-text.ensures.bytes

pub returns-in-Ok-clause-errors : goal.returns-in-Ok-clause-errors
returns-in-Ok-clause-errors g c = c.in-Ok.ensures.errors

pub returns-in-Ok-clause-prefix : goal.returns-in-Ok-clause-prefix
returns-in-Ok-clause-prefix g c = c.in-Ok.ensures.prefix

pub returns-in-Err-clause-text : goal.returns-in-Err-clause-text
returns-in-Err-clause-text g c = tt

pub returns-in-Err-clause-errors : goal.returns-in-Err-clause-errors
returns-in-Err-clause-errors g c = tt

pub returns-in-Err-clause-prefix : goal.returns-in-Err-clause-prefix
returns-in-Err-clause-prefix g c = c.in-Err.ensures.prefix
