use Rattle.std.proofs.Common.{refl, sym, ap, ◌∙◌, None}
use Rattle.fluent_ast.specs.View.{inline_view}
use Rattle.fluent_text.specs.Escapes.{unescaped}
use Rattle.fluent_semantics.specs.Arguments.{get}
use Rattle.fluent_semantics.specs.Bundle.{shown}
use Rattle.fluent_semantics.specs.Value.{try_number}
use Rattle.fluent_semantics.specs.Walk.{variables}
use Rattle.fluent_resolver_state.specs.Facts.Views.{view_number_in, view_string_in, view_variable_in}
use Rattle.fluent_resolver_state.specs.Happened.{variable_errors, variable_shown}
use Rattle.fluent_resolver_state.specs.Status.{state, state_parts}
use Rattle.fluent_values.specs.Sinks.{outside}
use Rattle.fluent_resolver.specs.Inside.Parts as parts
use Rattle.fluent_resolver.proofs.Going.{begun, turns}
use Rattle.fluent_resolver.proofs.Laying.{laid, laid_last, put, viewed}
use Rattle.fluent_resolver.proofs.Unbraced.{variable_is, written_number, written_string}
use Rattle.fluent_resolver.proofs.leaf.put_leaf.Goals as goal

pub returns-in-StringLiteral-clause-passes : goal.returns-in-StringLiteral-clause-passes
unfolding state_parts
returns-in-StringLiteral-clause-passes g c = λ k values n.
    let content = g.C.FluentType.content in
    let contents = g.W.Write.contents in
    let a = state g.B.Context.meant g.B.Context.is_plain g.F.FluentFunction.answer content c.args.scope.now in
    let out = c.args.out.now in
    let v = viewed out a values in
    let way = begun _ n (outside contents out) a in
    let t = c.in-StringLiteral.value.now in
    let same = ap (λ y. parts.written y a.bundle (k a.bundle) v) (view_string_in c.args.inline.now c.in-StringLiteral.value c.in-StringLiteral.is) ∙ written_string t a.bundle (k a.bundle) v in
    laid_last _ (λ u. refl) (put contents out c.put_unescaped.new.out a values a.bundle (k a.bundle) (unescaped t) c.put_unescaped.ensures (turns same way))

pub returns-in-NumberLiteral-clause-passes : goal.returns-in-NumberLiteral-clause-passes
unfolding state_parts
returns-in-NumberLiteral-clause-passes g c = λ k values n.
    let content = g.C.FluentType.content in
    let contents = g.W.Write.contents in
    let a = state g.B.Context.meant g.B.Context.is_plain g.F.FluentFunction.answer content c.args.scope.now in
    let out = c.args.out.now in
    let v = viewed out a values in
    let way = begun _ n (outside contents out) a in
    let t = c.in-NumberLiteral.value.now in
    let same = ap (λ y. parts.written y a.bundle (k a.bundle) v) (view_number_in c.args.inline.now c.in-NumberLiteral.value c.in-NumberLiteral.is) ∙ written_number t a.bundle (k a.bundle) v in
    laid_last _ (λ u. refl) (put contents out c.put_number.new.out a values a.bundle (k a.bundle) (shown a.bundle (try_number t)) c.put_number.ensures (turns same way))

pub returns-in-VariableReference-clause-passes : goal.returns-in-VariableReference-clause-passes
unfolding state_parts
returns-in-VariableReference-clause-passes g c = λ k values n.
    let content = g.C.FluentType.content in
    let contents = g.W.Write.contents in
    let a = state g.B.Context.meant g.B.Context.is_plain g.F.FluentFunction.answer content c.args.scope.now in
    let out = c.args.out.now in
    let v = viewed out a values in
    let way = begun _ n (outside contents out) a in
    let x = inline_view c.args.inline.now in
    let id = c.in-VariableReference.id.name.now in
    let is = view_variable_in c.args.inline.now c.in-VariableReference.id c.in-VariableReference.is in
    let b = state g.B.Context.meant g.B.Context.is_plain g.F.FluentFunction.answer content c.write_variable.new.scope in
    let last = c.write_variable.new.out in
    let o = get id (variables a.environment) in
    laid_last _ (λ u. ap (λ b'. k b' None (viewed last b values)) (sym c.write_variable.ensures.happened.stays.bundle))
    (laid contents out last a b values a.bundle (k a.bundle) (variable_errors a.environment x o) (variable_shown a.bundle x o) c.write_variable.ensures (turns (variable_is x id a.bundle (k a.bundle) v is) way))
