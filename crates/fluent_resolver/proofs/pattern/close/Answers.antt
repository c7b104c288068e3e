use Rattle.std.proofs.Common.{rules, refl}
use Rattle.fluent_ast.specs.View.{expression_view}
use Rattle.fluent_ast.specs.Fallback.{fallback_of}
use Rattle.fluent_semantics.specs.Meaning.{ending, last_mark}
use Rattle.fluent_resolver_state.specs.Status.{state, state_parts}
use Rattle.fluent_values.specs.Sinks.{outside}
use Rattle.fluent_resolver.specs.Inside.Parts.{text_then}
use Rattle.fluent_resolver.proofs.Laying.{laid_halts, laid_last, laid_ok, put, viewed}
use Rattle.fluent_resolver.proofs.Going.{begun, turns}
use Rattle.fluent_resolver.proofs.TextsInTurn.{texts_in_turn}
use Rattle.fluent_resolver.proofs.pattern.close.Goals as goal

pub returns-in_err-put_ending-clause-goes : goal.returns-in_err-put_ending-clause-goes
unfolding state_parts
returns-in_err-put_ending-clause-goes g c = λ k values n.
    let content = g.C.FluentType.content in
    let contents = g.W.Write.contents in
    let a = state g.B.Context.meant g.B.Context.is_plain g.F.FluentFunction.answer content c.args.scope.now in
    let out = c.args.out.now in
    let end = ending (fallback_of (expression_view c.args.expression.now)) a.budget in
    let last = last_mark c.args.marked in
    let way = turns (texts_in_turn (k a.bundle) (viewed out a values) end last a.budget) (begun _ n (outside contents out) a) in
    laid_halts c.in_err-put_ending.was (search rules) (put contents out c.put_ending.new.out a values a.bundle (λ given v. text_then (k a.bundle) v last v.budget) end c.put_ending.ensures way)

pub returns-clause-goes : goal.returns-clause-goes
unfolding state_parts
returns-clause-goes g c = λ k values n.
    let content = g.C.FluentType.content in
    let contents = g.W.Write.contents in
    let a = state g.B.Context.meant g.B.Context.is_plain g.F.FluentFunction.answer content c.args.scope.now in
    let out = c.args.out.now in
    let end = ending (fallback_of (expression_view c.args.expression.now)) a.budget in
    let last = last_mark c.args.marked in
    let way = turns (texts_in_turn (k a.bundle) (viewed out a values) end last a.budget) (begun _ n (outside contents out) a) in
    let first = put contents out c.put_ending.new.out a values a.bundle (λ given v. text_then (k a.bundle) v last v.budget) end c.put_ending.ensures way in
    laid_last _ (λ x. refl) (put contents c.put_ending.new.out c.put_last_mark.new.out a values a.bundle (k a.bundle) last c.put_last_mark.ensures (laid_ok c.in_ok-put_ending.was first))
