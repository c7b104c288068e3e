use Rattle.std.proofs.Common.{sym, ap, ◌∙◌}
use Rattle.std.proofs.lemmas.Result.{IfOk-from_err}
use Rattle.std.specs.Option.{option_map, unwrap_or}
use Rattle.fluent_ast.specs.View.{pattern_view}
use Rattle.fluent_semantics.specs.Bundle.{transform_of, formatter_of}
use Rattle.fluent_semantics.specs.Result.{written_pattern}
use Rattle.fluent_bundle.specs.BundleView.{formatter_in, intls_in, meant, transform_in}
use Rattle.fluent_resolver_state.specs.Status.{arguments_view}
use Rattle.fluent_bundle.proofs.Givings.{borrowed_where, formatted_none, formatted_some, never_sole, no_prefix_added, none_added, sole_formatted, sole_known}
use Rattle.fluent_bundle.proofs.bundle.FluentBundle.format_linked.Goals as goal

pub returns-in-Some-clause-whole : goal.returns-in-Some-clause-whole
returns-in-Some-clause-whole g c =
    let self = c.args.self.now in
    let b = meant g.M.MemoizerKind.category g.C.FluentType.shown g.C.FluentType.alike g.F.FluentFunction.answer g.G.FluentFormatter.formatted g.T.Transform.changed self in
    let env = arguments_view g.C.FluentType.content c.args.args in
    let p = pattern_view c.args.pattern.now in
    let t = c.in-Some.text.now in
    let borrowed = borrowed_where (transform_in self) (formatter_in self) p t (sym (ap (option_map (λ t. t.now)) c.in-Some.is) ∙ c.sole_text.ensures) in
    record {
      text = sole_formatted b env p t
          (λ u. ap (λ o. transform_of (option_map g.T.Transform.changed o) u) borrowed.0)
          (λ v. ap (λ o. formatter_of (option_map (λ f v. g.G.FluentFormatter.formatted f v (intls_in self)) o) v) borrowed.1)
          borrowed.2;
      adds = none_added b env p t c.args.errors.now.items borrowed.2;
    }

pub returns-in-Some-clause-borrowed : goal.returns-in-Some-clause-borrowed
returns-in-Some-clause-borrowed g c = λ t is a b.
    ap (λ o. unwrap_or o t) (sym (ap (option_map (λ t. t.now)) c.in-Some.is) ∙ sole_known (transform_in c.args.self.now) (formatter_in c.args.self.now) (pattern_view c.args.pattern.now) t _ c.sole_text.ensures is a b)

pub returns-in-Some-clause-prefix : goal.returns-in-Some-clause-prefix
returns-in-Some-clause-prefix g c = no_prefix_added _ c.args.errors.now.items

pub returns-in_err-text-clause-whole : goal.returns-in_err-text-clause-whole
returns-in_err-text-clause-whole g c = record { text = IfOk-from_err c.from_residual.result _ c.from_residual.ensures.0; adds = IfOk-from_err c.from_residual.result _ c.from_residual.ensures.0 }

pub returns-in_err-text-clause-borrowed : goal.returns-in_err-text-clause-borrowed
returns-in_err-text-clause-borrowed g c = λ t is plain bare.
    let self = c.args.self.now in
    absurd (never_sole (transform_in self) (formatter_in self) (pattern_view c.args.pattern.now) t (sym (ap (option_map (λ t. t.now)) c.in_default.is) ∙ c.sole_text.ensures) is plain bare)

pub returns-in_err-shown-clause-whole : goal.returns-in_err-shown-clause-whole
returns-in_err-shown-clause-whole g c = record { text = IfOk-from_err c.from_residual-in_err-shown.result _ c.from_residual-in_err-shown.ensures.0; adds = IfOk-from_err c.from_residual-in_err-shown.result _ c.from_residual-in_err-shown.ensures.0 }

pub returns-in_err-shown-clause-borrowed : goal.returns-in_err-shown-clause-borrowed
returns-in_err-shown-clause-borrowed g c = λ t is plain bare.
    let self = c.args.self.now in
    absurd (never_sole (transform_in self) (formatter_in self) (pattern_view c.args.pattern.now) t (sym (ap (option_map (λ t. t.now)) c.in_default.is) ∙ c.sole_text.ensures) is plain bare)

pub returns-in_err-shown-clause-prefix : goal.returns-in_err-shown-clause-prefix
returns-in_err-shown-clause-prefix g c = c.in_ok-text.ensures.prefix

pub returns-in-Some-2-clause-whole : goal.returns-in-Some-2-clause-whole
returns-in-Some-2-clause-whole g c =
    let b = meant g.M.MemoizerKind.category g.C.FluentType.shown g.C.FluentType.alike g.F.FluentFunction.answer g.G.FluentFormatter.formatted g.T.Transform.changed c.args.self.now in
    let all = (written_pattern b (arguments_view g.C.FluentType.content c.args.args) (pattern_view c.args.pattern.now)).value in
    record {
      text = formatted_some b _ all c.in_ok-shown.field-0 (c.as_str.ensures.value ∙ c.in_ok-text.ensures.text) c.in_ok-shown.ensures c.in-Some-2.shown c.in-Some-2.is;
      adds = c.in_ok-text.ensures.errors;
    }

pub returns-in-Some-2-clause-prefix : goal.returns-in-Some-2-clause-prefix
returns-in-Some-2-clause-prefix g c = c.in_ok-text.ensures.prefix

pub returns-in-Some-2-clause-borrowed : goal.returns-in-Some-2-clause-borrowed
returns-in-Some-2-clause-borrowed g c = λ t is plain bare.
    let self = c.args.self.now in
    never_sole (transform_in self) (formatter_in self) (pattern_view c.args.pattern.now) t (sym (ap (option_map (λ t. t.now)) c.in_default.is) ∙ c.sole_text.ensures) is plain bare

pub returns-clause-whole : goal.returns-clause-whole
returns-clause-whole g c =
    let b = meant g.M.MemoizerKind.category g.C.FluentType.shown g.C.FluentType.alike g.F.FluentFunction.answer g.G.FluentFormatter.formatted g.T.Transform.changed c.args.self.now in
    let all = (written_pattern b (arguments_view g.C.FluentType.content c.args.args) (pattern_view c.args.pattern.now)).value in
    record {
      text = c.in_ok-text.ensures.text ∙ formatted_none b _ all c.in_ok-shown.field-0 (c.as_str.ensures.value ∙ c.in_ok-text.ensures.text) c.in_ok-shown.ensures c.in-None.is;
      adds = c.in_ok-text.ensures.errors;
    }

pub returns-clause-prefix : goal.returns-clause-prefix
returns-clause-prefix g c = c.in_ok-text.ensures.prefix

pub returns-clause-borrowed : goal.returns-clause-borrowed
returns-clause-borrowed g c = λ t is plain bare.
    let self = c.args.self.now in
    never_sole (transform_in self) (formatter_in self) (pattern_view c.args.pattern.now) t (sym (ap (option_map (λ t. t.now)) c.in_default.is) ∙ c.sole_text.ensures) is plain bare
