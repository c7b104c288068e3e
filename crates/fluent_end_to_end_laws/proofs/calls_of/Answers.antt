use Rattle.std.proofs.Common.{rules, ◌∙◌}
use Rattle.std.proofs.lemmas.Iterator.{YieldsList-from_slice, YieldsList-from_zip}
use Rattle.std.proofs.lemmas.Iterator.Adapters.{YieldsList-from_vec}
use Rattle.std.proofs.lemmas.Iterator.Consumers.{YieldsList-end}
use Rattle.fluent_end_to_end_laws.proofs.Steps.{one_more, steps_read, steps_of_pairs}
use Rattle.fluent_end_to_end_laws.proofs.calls_of.Goals as goal

pub loop-call-preserved : goal.loop-call-preserved
loop-call-preserved g c i = one_more _ _ _ _ _ c.loop-call.yielded (c.in-Some.call, c.in-Some.resource) c.in_ok-push.ensures.items (c.loop-call.invariant i) (c.call_of.ensures i)

pub returns : goal.returns
returns g c i =
    let from = YieldsList-from_zip {s = c.into_iter-call-iterator.result} (YieldsList-from_vec {s = c.into_iter-call-iterator.result.a} c.args.calls.items (search rules) (search rules)) (YieldsList-from_slice {s = c.into_iter-call-iterator.result.b} c.args.resources.now (search rules)) in
    let end = YieldsList-end from c.loop-call.yielded c.loop-call.call-iterator c.loop-call.yielded_by c.next.result c.next.new.self c.in-None.is c.next.ensures.steps in
    c.loop-call.invariant i ∙ steps_of_pairs g.F.FluentFunction.answer g.G.FluentFormatter.formatted g.T.Transform.changed i _ _ _ end.0 ∙ steps_read g.F.FluentFunction.answer g.G.FluentFormatter.formatted g.T.Transform.changed i _ _ c.requires
