use Rattle.std.proofs.Common.{ap, ◌∙◌}
use Rattle.std.specs.List.{slice_get}
use Rattle.fluent_clean.proofs.Round.{begins}
use Rattle.fluent_clean.proofs.Looked.{true_one}
use Rattle.fluent_clean.proofs.cycles.push_cycle.Goals as goal

pub returns-in_ok-push : goal.returns-in_ok-push
returns-in_ok-push c = λ named round limit.
    true_one named limit _ _ _ c.in_ok-push.ensures.items (begins c.args.places.items c.in-Some.first.now (c.in-Some.ensures.value ∙ ap (λ l. slice_get l 0) c.deref.ensures.value), round)
