use Rattle.std.proofs.Common.{rules, sym, ap, ◌∙◌, [], ◌∷◌, ◌++◌, append_assoc, ◌≡◌, true, false}
use Rattle.std.proofs.lemmas.Iterator.Adapters.{YieldsList-from_vec}
use Rattle.std.proofs.lemmas.Iterator.Consumers.{YieldsList-end}
use Rattle.fluent_bundle.specs.Calls.{asks, IsSetting}
use Rattle.fluent_bundle.proofs.Running.{none_made, one_made, begun_by, of_this, on_err, all_made}
use Rattle.fluent_bundle.proofs.bundle.FluentBundle.make_all.Goals as goal

pub loop-call-init : goal.loop-call-init
loop-call-init g c = record { made = none_made _ _ _; whole = search rules }

pub loop-call-preserved : goal.loop-call-preserved
loop-call-preserved g c =
    record {
      made = one_made _ (asks g.F.FluentFunction.answer g.G.FluentFormatter.formatted g.T.Transform.changed) c.loop-call.yielded c.in-Some.call _ _ _ c.loop-call.invariant.made c.in_ok-make.ensures.ok;
      whole = c.loop-call.invariant.whole ∙ ap (λ xs. c.loop-call.yielded ++ xs) c.in-Some.ensures.steps.0 ∙ sym (append_assoc c.loop-call.yielded (c.in-Some.call ∷ []) _);
    }

pub returns-in_err-make-clause-err : goal.returns-in_err-make-clause-err
returns-in_err-make-clause-err g c =
    let whole = c.loop-call.invariant.whole ∙ ap (λ xs. c.loop-call.yielded ++ xs) c.in-Some.ensures.steps.0 in
    let takes : IsSetting c.in-Some.call → ⊥ = λ few. let no : false ≡ true = c.in_err-make.ensures.succeeds few in cc in
    on_err c.from_residual.result
    (begun_by _ (asks g.F.FluentFunction.answer g.G.FluentFormatter.formatted g.T.Transform.changed) c.args.calls.items c.loop-call.yielded _ c.in-Some.call c.args.self.now c.loop-call.self c.make.new.self
    whole
    takes
    c.loop-call.invariant.made
    c.in_err-make.ensures.err)

pub returns-in_err-make-clause-succeeds : goal.returns-in_err-make-clause-succeeds
returns-in_err-make-clause-succeeds g c few =
    let whole = c.loop-call.invariant.whole ∙ ap (λ xs. c.loop-call.yielded ++ xs) c.in-Some.ensures.steps.0 in
    let no : false ≡ true = c.in_err-make.ensures.succeeds (of_this IsSetting c.args.calls.items c.loop-call.yielded c.in-Some.call _ whole few) in
    absurd (cc no)

pub returns-clause-ok : goal.returns-clause-ok
returns-clause-ok g c =
    let gives = c.into_iter-call-iterator.ensures.into_iter_gives in
    let end = YieldsList-end (YieldsList-from_vec {s = c.into_iter-call-iterator.result} c.args.calls.items gives.0 (search (rules, gives.1))) c.loop-call.yielded c.loop-call.call-iterator c.loop-call.yielded_by c.next.result c.next.new.self c.in-None.is c.next.ensures.steps in
    all_made _ _ c.loop-call.yielded c.args.calls.items _ _ end.0 c.loop-call.invariant.made
