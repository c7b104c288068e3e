use Rattle.std.proofs.Common.{rules, ap, sym, ◌∙◌}
use Rattle.std.specs.Option.{option_map}
use Rattle.fluent_ast.specs.View.{inline_view}
use Rattle.fluent_resolver_state.specs.Facts.Happening.{did_as, did_memory, did_put}
use Rattle.fluent_resolver_state.specs.Happened.{answer_events}
use Rattle.fluent_resolver_state.specs.Status.{state, state_parts}
use Rattle.fluent_values.specs.View.{value_view}
use Rattle.fluent_resolver_state.proofs.shown.put_answer.Goals as goal

pub returns-in_err-answer_of : goal.returns-in_err-answer_of
unfolding state_parts
returns-in_err-answer_of g c = did_memory _ _ _ (search rules)

pub returns-in-None : goal.returns-in-None
unfolding state_parts
returns-in-None g c =
    let a = state g.B.Context.meant g.B.Context.is_plain g.F.FluentFunction.answer g.C.FluentType.content c.args.scope.now in
    did_as (ap (answer_events a.bundle (inline_view c.args.inline.now)) (ap (option_map (value_view g.C.FluentType.content)) (sym c.in-None.is) ∙ c.in_ok-answer_of.ensures)) c.lose.ensures.wrote

pub returns-in-Some : goal.returns-in-Some
unfolding state_parts
returns-in-Some g c =
    let a = state g.B.Context.meant g.B.Context.is_plain g.F.FluentFunction.answer g.C.FluentType.content c.args.scope.now in
    did_as (ap (answer_events a.bundle (inline_view c.args.inline.now)) (ap (option_map (value_view g.C.FluentType.content)) (sym c.in-Some.is) ∙ c.in_ok-answer_of.ensures)) (did_put a c.put_shown.ensures)
