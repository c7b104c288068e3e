use Rattle.std.proofs.Common.{refl, rules, sym, ap, ◌∙◌, Some, None}
use Rattle.fluent_ast.specs.References.{variants_view}
use Rattle.fluent_resolver_state.specs.Facts.Happening.{happened_as}
use Rattle.fluent_resolver_state.specs.Status.{environment_view, state, state_parts}
use Rattle.fluent_values.specs.Sinks.{outside}
use Rattle.fluent_values.specs.View.{value_view}
use Rattle.fluent_resolver.specs.Frames.{frame, kept_before, made, selector_value, values_view}
use Rattle.fluent_resolver.specs.Inside.Parts as parts
use Rattle.fluent_resolver.specs.Inside.Waits.{frames_in, values_in}
use Rattle.fluent_resolver.proofs.Going.{begun, finishes, goes, halts, passes, turns, went_on}
use Rattle.fluent_resolver.proofs.Laying.{kept_of, viewed}
use Rattle.fluent_resolver.proofs.Moving.{elsewhere, moves, path_is}
use Rattle.fluent_resolver.proofs.Opening.{At}
use Rattle.fluent_resolver.proofs.Taken.{is_still}
use Rattle.fluent_resolver.proofs.machine.resume.Goals as goal

pub returns-in_err-write_from-in-Elements-clause-goes : goal.returns-in_err-write_from-in-Elements-clause-goes
unfolding state_parts
returns-in_err-write_from-in-Elements-clause-goes g c k n =
    let content = g.C.FluentType.content in
    let contents = g.W.Write.contents in
    let a = state g.B.Context.meant g.B.Context.is_plain g.F.FluentFunction.answer content c.args.scope.now in
    let out = c.args.out.now in
    let v = viewed out a (values_view content (values_in c.args.work.now)) in
    let way = turns (ap (λ f. frame content f (made content c.args.given) a.bundle (k a.bundle) v) c.in-Elements.is) (begun _ n (outside contents out) a) in
    halts c.in_err-write_from-in-Elements.was (search rules) way (c.write_from.ensures.goes k n)

pub returns-in-Elements-clause-goes : goal.returns-in-Elements-clause-goes
unfolding state_parts
returns-in-Elements-clause-goes g c k n =
    let content = g.C.FluentType.content in
    let contents = g.W.Write.contents in
    let a = state g.B.Context.meant g.B.Context.is_plain g.F.FluentFunction.answer content c.args.scope.now in
    let out = c.args.out.now in
    let v = viewed out a (values_view content (values_in c.args.work.now)) in
    let way = turns (ap (λ f. frame content f (made content c.args.given) a.bundle (k a.bundle) v) c.in-Elements.is) (begun _ n (outside contents out) a) in
    finishes None _ refl refl (goes c.in_ok-write_from-in-Elements.was way (c.write_from.ensures.goes k n))

pub returns-in_err-write_expression-in-Express-clause-goes : goal.returns-in_err-write_expression-in-Express-clause-goes
unfolding state_parts
returns-in_err-write_expression-in-Express-clause-goes g c k n =
    let content = g.C.FluentType.content in
    let contents = g.W.Write.contents in
    let a = state g.B.Context.meant g.B.Context.is_plain g.F.FluentFunction.answer content c.args.scope.now in
    let out = c.args.out.now in
    let v = viewed out a (values_view content (values_in c.args.work.now)) in
    let way = turns (ap (λ f. frame content f (made content c.args.given) a.bundle (k a.bundle) v) c.in-Express.is) (begun _ n (outside contents out) a) in
    halts c.in_err-write_expression-in-Express.was (search rules) way (c.write_expression.ensures.goes k n)

pub returns-in-Express-clause-goes : goal.returns-in-Express-clause-goes
unfolding state_parts
returns-in-Express-clause-goes g c k n =
    let content = g.C.FluentType.content in
    let contents = g.W.Write.contents in
    let a = state g.B.Context.meant g.B.Context.is_plain g.F.FluentFunction.answer content c.args.scope.now in
    let out = c.args.out.now in
    let v = viewed out a (values_view content (values_in c.args.work.now)) in
    let way = turns (ap (λ f. frame content f (made content c.args.given) a.bundle (k a.bundle) v) c.in-Express.is) (begun _ n (outside contents out) a) in
    finishes None _ refl refl (goes c.in_ok-write_expression-in-Express.was way (c.write_expression.ensures.goes k n))

pub returns-in_err-choose_given-in-Choose-clause-goes : goal.returns-in_err-choose_given-in-Choose-clause-goes
unfolding state_parts
returns-in_err-choose_given-in-Choose-clause-goes g c k n =
    let content = g.C.FluentType.content in
    let contents = g.W.Write.contents in
    let a = state g.B.Context.meant g.B.Context.is_plain g.F.FluentFunction.answer content c.args.scope.now in
    let out = c.args.out.now in
    let v = viewed out a (values_view content (values_in c.args.work.now)) in
    let way = turns (ap (λ f. frame content f (made content c.args.given) a.bundle (k a.bundle) v) c.in-Choose.is) (begun _ n (outside contents out) a) in
    let here = turns (ap (λ ys. parts.matched (variants_view ys) (selector_value (made content c.args.given)) a.bundle (k a.bundle) v) (sym c.deref.ensures.value)) way in
    halts c.in_err-choose_given-in-Choose.was (search rules) here (c.choose_given.ensures.goes k n)

pub returns-in-Choose-clause-goes : goal.returns-in-Choose-clause-goes
unfolding state_parts
returns-in-Choose-clause-goes g c k n =
    let content = g.C.FluentType.content in
    let contents = g.W.Write.contents in
    let a = state g.B.Context.meant g.B.Context.is_plain g.F.FluentFunction.answer content c.args.scope.now in
    let out = c.args.out.now in
    let v = viewed out a (values_view content (values_in c.args.work.now)) in
    let way = turns (ap (λ f. frame content f (made content c.args.given) a.bundle (k a.bundle) v) c.in-Choose.is) (begun _ n (outside contents out) a) in
    let here = turns (ap (λ ys. parts.matched (variants_view ys) (selector_value (made content c.args.given)) a.bundle (k a.bundle) v) (sym c.deref.ensures.value)) way in
    finishes None _ refl refl (goes c.in_ok-choose_given-in-Choose.was here (c.choose_given.ensures.goes k n))

pub returns-in_err-close-in-Close-clause-goes : goal.returns-in_err-close-in-Close-clause-goes
unfolding state_parts
returns-in_err-close-in-Close-clause-goes g c k n =
    let content = g.C.FluentType.content in
    let contents = g.W.Write.contents in
    let a = state g.B.Context.meant g.B.Context.is_plain g.F.FluentFunction.answer content c.args.scope.now in
    let out = c.args.out.now in
    let v = viewed out a (values_view content (values_in c.args.work.now)) in
    let way = turns (ap (λ f. frame content f (made content c.args.given) a.bundle (k a.bundle) v) c.in-Close.is) (begun _ n (outside contents out) a) in
    halts c.in_err-close-in-Close.was (search rules) way (c.close.ensures.goes k (values_view content (values_in c.args.work.now)) n)

pub returns-in-Close-clause-goes : goal.returns-in-Close-clause-goes
unfolding state_parts
returns-in-Close-clause-goes g c k n =
    let content = g.C.FluentType.content in
    let contents = g.W.Write.contents in
    let a = state g.B.Context.meant g.B.Context.is_plain g.F.FluentFunction.answer content c.args.scope.now in
    let out = c.args.out.now in
    let v = viewed out a (values_view content (values_in c.args.work.now)) in
    let way = turns (ap (λ f. frame content f (made content c.args.given) a.bundle (k a.bundle) v) c.in-Close.is) (begun _ n (outside contents out) a) in
    let values = values_view content (values_in c.args.work.now) in
    let b = state g.B.Context.meant g.B.Context.is_plain g.F.FluentFunction.answer content c.close.new.scope in
    finishes None _ refl refl (is_still content b.bundle (frames_in c.args.work.now) (k b.bundle) None (viewed c.close.new.out b values) c.requires.nothing (goes c.in_ok-close-in-Close.was way (c.close.ensures.goes k values n)))

pub returns-in-Gather-clause-goes : goal.returns-in-Gather-clause-goes
unfolding state_parts
returns-in-Gather-clause-goes g c k n =
    let content = g.C.FluentType.content in
    let contents = g.W.Write.contents in
    let a = state g.B.Context.meant g.B.Context.is_plain g.F.FluentFunction.answer content c.args.scope.now in
    let out = c.args.out.now in
    let v = viewed out a (values_view content (values_in c.args.work.now)) in
    let way = turns (ap (λ f. frame content f (made content c.args.given) a.bundle (k a.bundle) v) c.in-Gather.is) (begun _ n (outside contents out) a) in
    went_on way (c.go_on.ensures.goes k n)

pub returns-clause-goes : goal.returns-clause-goes
unfolding state_parts
returns-clause-goes g c k n =
    let content = g.C.FluentType.content in
    let contents = g.W.Write.contents in
    let a = state g.B.Context.meant g.B.Context.is_plain g.F.FluentFunction.answer content c.args.scope.now in
    let out = c.args.out.now in
    let v = viewed out a (values_view content (values_in c.args.work.now)) in
    let way = turns (ap (λ f. frame content f (made content c.args.given) a.bundle (k a.bundle) v) c.in-Resolve.is) (begun _ n (outside contents out) a) in
    went_on way (c.resolve.ensures.goes k n)

pub returns-in-Leave-clause-goes : goal.returns-in-Leave-clause-goes
unfolding state_parts
returns-in-Leave-clause-goes g c k n =
    let content = g.C.FluentType.content in
    let contents = g.W.Write.contents in
    let a = state g.B.Context.meant g.B.Context.is_plain g.F.FluentFunction.answer content c.args.scope.now in
    let out = c.args.out.now in
    let v = viewed out a (values_view content (values_in c.args.work.now)) in
    let way = turns (ap (λ f. frame content f (made content c.args.given) a.bundle (k a.bundle) v) c.in-Leave.is) (begun _ n (outside contents out) a) in
    let at : At = λ x env path budget. k x None (record { kept = kept_of out; budget = budget; environment = env; path = path; values = values_view content (values_in c.args.work.now) }) in
    let e = c.leave.ensures.elsewhere in
    let b = state g.B.Context.meant g.B.Context.is_plain g.F.FluentFunction.answer content c.leave.new.self in
    finishes None _ refl refl (is_still content b.bundle (frames_in c.args.work.now) (k b.bundle) None (viewed out b (values_view content (values_in c.args.work.now))) c.requires.nothing
    (turns (moves a b at a.environment _ e.stays.bundle e.environment (path_is c.in-Leave.put c.leave.ensures) e.budget)
    (passes (happened_as (outside contents out) e.errors e.budget c.leave.ensures.tally e.stays) way)))

pub returns-in-Outer-clause-goes : goal.returns-in-Outer-clause-goes
unfolding state_parts
returns-in-Outer-clause-goes g c k n =
    let content = g.C.FluentType.content in
    let contents = g.W.Write.contents in
    let a = state g.B.Context.meant g.B.Context.is_plain g.F.FluentFunction.answer content c.args.scope.now in
    let out = c.args.out.now in
    let v = viewed out a (values_view content (values_in c.args.work.now)) in
    let way = turns (ap (λ f. frame content f (made content c.args.given) a.bundle (k a.bundle) v) c.in-Outer.is) (begun _ n (outside contents out) a) in
    let here = turns (ap (λ e. k a.bundle None (record v { environment = environment_view content e })) (sym c.replace.ensures.after)) way in
    let there = passes (happened_as (outside contents out) refl refl refl (record { bundle = refl; borrow = refl; list = refl; stored = refl; is_plain = refl })) here in
    finishes None _ refl refl (is_still content a.bundle (frames_in c.args.work.now) (k a.bundle) None (record v { environment = environment_view content c.replace.new.dest }) c.requires.nothing there)

pub returns-in-Value-clause-goes : goal.returns-in-Value-clause-goes
unfolding state_parts
returns-in-Value-clause-goes g c k n =
    let content = g.C.FluentType.content in
    let contents = g.W.Write.contents in
    let a = state g.B.Context.meant g.B.Context.is_plain g.F.FluentFunction.answer content c.args.scope.now in
    let out = c.args.out.now in
    let v = viewed out a (values_view content (values_in c.args.work.now)) in
    let way = turns (ap (λ f. frame content f (made content c.args.given) a.bundle (k a.bundle) v) c.in-Value.is) (begun _ n (outside contents out) a) in
    let out1 = c.end_text.new.out in
    let here = turns (
    ap (λ x. k a.bundle (Some x) (record v { kept = kept_before c.in-Value.was_kept c.in-Value.outer })) (sym c.end_text.ensures.value)
    ∙ ap (λ t. k a.bundle (Some (value_view content c.end_text.result)) (record v { kept = kept_before c.in-Value.was_kept t })) (sym c.end_text.ensures.kept)
    ∙ ap (λ kept. k a.bundle (Some (value_view content c.end_text.result)) (record v { kept = kept_before kept out1.kept.now })) (sym c.end_text.ensures.is_kept)) way in
    finishes (Some c.end_text.result) _ refl refl (is_still content a.bundle (frames_in c.args.work.now) (k a.bundle) (Some (value_view content c.end_text.result)) (viewed out1 a (values_view content (values_in c.args.work.now))) c.requires.nothing (elsewhere c.end_text.ensures.outside here))
