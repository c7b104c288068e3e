use Rattle.std.proofs.Common.{refl, rules, sym, ap, ◌∙◌, None, Some}
use Rattle.fluent_ast.specs.View.{arguments_view}
use Rattle.fluent_resolver_state.specs.Status.{state, state_parts}
use Rattle.fluent_values.specs.Facts.Took.{at_ok}
use Rattle.fluent_values.specs.Sinks.{outside}
use Rattle.fluent_resolver.specs.Frames.{at_end, before, made, values_view}
use Rattle.fluent_resolver.specs.Inside.Parts as parts
use Rattle.fluent_resolver.specs.Scoped.{given_values}
use Rattle.fluent_resolver.specs.Inside.Waits.{frames_in, values_in}
use Rattle.fluent_resolver.proofs.Going.{begun, goes, turns}
use Rattle.fluent_resolver.proofs.Laying.{viewed}
use Rattle.fluent_resolver.proofs.Running.{ends_err}
use Rattle.fluent_resolver.proofs.Wholes.{begun_with, fresh, never_both, runs_on, yields, yields_fails, yields_not}
use Rattle.fluent_resolver.proofs.tracking.give_arguments.Goals as goal

pub returns-in-Err : goal.returns-in-Err
unfolding state_parts
returns-in-Err g c =
    let content = g.C.FluentType.content in
    let contents = g.W.Write.contents in
    let a = state g.B.Context.meant g.B.Context.is_plain g.F.FluentFunction.answer content c.args.scope.now in
    let out = c.args.out.now in
    let work = c.new-work.result in
    let part = parts.calls parts.hands (arguments_view c.args.arguments.now) in
    let way = turns (begun_with content part at_end a out work c.requires.kept c.new-work.ensures.values) (begun (part a.bundle at_end (fresh a)) 0 (outside contents out) a) in
    yields_not {e = c.in-Err.fault} (λ v. Some (given_values content v)) (search rules) refl (ends_err None c.in-Err.is (search rules) way (c.begin_call.ensures.goes (λ s. at_end) 0))

pub returns-in-Err-run : goal.returns-in-Err-run
unfolding state_parts
returns-in-Err-run g c =
    let content = g.C.FluentType.content in
    let contents = g.W.Write.contents in
    let a = state g.B.Context.meant g.B.Context.is_plain g.F.FluentFunction.answer content c.args.scope.now in
    let out = c.args.out.now in
    let work = c.new-work.result in
    let part = parts.calls parts.hands (arguments_view c.args.arguments.now) in
    let way = turns (begun_with content part at_end a out work c.requires.kept c.new-work.ensures.values) (begun (part a.bundle at_end (fresh a)) 0 (outside contents out) a) in
    let d = state g.B.Context.meant g.B.Context.is_plain g.F.FluentFunction.answer content c.begin_call.new.scope in
    let work1 = c.begin_call.new.work in
    let last = viewed c.begin_call.new.out d (values_view content (values_in work1)) in
    let there = turns (ap (λ x. before content d.bundle (frames_in work1) at_end (made content x) last) c.in-Ok.ensures.given) (goes c.in-Ok.is way (c.begin_call.ensures.goes (λ s. at_end) 0)) in
    let ran = runs_on there c.run.ensures in
    yields_fails (λ v. Some (given_values content v)) c.in-Err-run.is (search rules) refl ran

pub unreachable-requires : goal.unreachable-requires
unfolding state_parts
unreachable-requires g c =
    let content = g.C.FluentType.content in
    let contents = g.W.Write.contents in
    let a = state g.B.Context.meant g.B.Context.is_plain g.F.FluentFunction.answer content c.args.scope.now in
    let out = c.args.out.now in
    let work = c.new-work.result in
    let part = parts.calls parts.hands (arguments_view c.args.arguments.now) in
    let way = turns (begun_with content part at_end a out work c.requires.kept c.new-work.ensures.values) (begun (part a.bundle at_end (fresh a)) 0 (outside contents out) a) in
    let d = state g.B.Context.meant g.B.Context.is_plain g.F.FluentFunction.answer content c.begin_call.new.scope in
    let work1 = c.begin_call.new.work in
    let last = viewed c.begin_call.new.out d (values_view content (values_in work1)) in
    let there = turns (ap (λ x. before content d.bundle (frames_in work1) at_end (made content x) last) c.in-Ok.ensures.given) (goes c.in-Ok.is way (c.begin_call.ensures.goes (λ s. at_end) 0)) in
    let ran = runs_on there c.run.ensures in
    never_both (sym (at_ok c.in-Ok-run.is ran.ends) ∙ ap (values_view content) (sym c.into_values.ensures ∙ c.in-None.is))
    (c.events_are_the_run.ensures.events.arguments a.bundle a.environment a.path (arguments_view c.args.arguments.now) a.budget).values

pub returns : goal.returns
unfolding state_parts
returns g c =
    let content = g.C.FluentType.content in
    let contents = g.W.Write.contents in
    let a = state g.B.Context.meant g.B.Context.is_plain g.F.FluentFunction.answer content c.args.scope.now in
    let out = c.args.out.now in
    let work = c.new-work.result in
    let part = parts.calls parts.hands (arguments_view c.args.arguments.now) in
    let way = turns (begun_with content part at_end a out work c.requires.kept c.new-work.ensures.values) (begun (part a.bundle at_end (fresh a)) 0 (outside contents out) a) in
    let d = state g.B.Context.meant g.B.Context.is_plain g.F.FluentFunction.answer content c.begin_call.new.scope in
    let work1 = c.begin_call.new.work in
    let last = viewed c.begin_call.new.out d (values_view content (values_in work1)) in
    let there = turns (ap (λ x. before content d.bundle (frames_in work1) at_end (made content x) last) c.in-Ok.ensures.given) (goes c.in-Ok.is way (c.begin_call.ensures.goes (λ s. at_end) 0)) in
    let ran = runs_on there c.run.ensures in
    yields (λ v. Some (given_values content v)) c.in-Ok-run.is refl refl refl (ap (values_view content) (sym c.in-Some.is ∙ c.into_values.ensures)) ran
