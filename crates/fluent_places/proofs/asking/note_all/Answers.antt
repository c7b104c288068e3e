use Rattle.std.proofs.Common.{ap}
use Rattle.fluent_places.specs.Asked.{texts}
use Rattle.fluent_places.specs.Places.{views}
use Rattle.fluent_places.specs.NeedsView.{need_view}
use Rattle.fluent_places.proofs.Gathering.{notes_as, notes_default, notes_function, notes_message, notes_next, notes_term, notes_variable}
use Rattle.fluent_places.proofs.asking.note_all.Goals as goal
use Rattle.fluent_places.proofs.asking.note_all.Goals.{in-Variable+in_ok-add_name-in-Variable, in-Message+in_ok-add_place-in-Message, in-Term, in-Function, in-Default}

pub loop-need-preserved : goal.loop-need-preserved
loop-need-preserved c = notes_next c.args.list.now c.loop-need.need-index c.need-item.result _ _ _ _ c.loop-need-test.true c.need-item.is (
    elim c.match-need.branch [
      | in-Variable+in_ok-add_name-in-Variable w ↦ notes_as _ _ _ _ _ _ _ _ _ (ap need_view w.in-Variable.is) (ap (λ v. views v.keys) w.reached-is) (ap (λ v. texts v.keys) w.names-is) (notes_variable _ _ _ _ _ _ _ c.loop-need.invariant w.in_ok-add_name-in-Variable.ensures)
      | in-Message+in_ok-add_place-in-Message w ↦ notes_as _ _ _ _ _ _ _ _ _ (ap need_view w.in-Message.is) (ap (λ v. views v.keys) w.reached-is) (ap (λ v. texts v.keys) w.names-is) (notes_message _ _ _ _ _ _ _ _ c.loop-need.invariant w.in_ok-add_place-in-Message.ensures)
      | in-Term w ↦ notes_as _ _ _ _ _ _ _ _ _ (ap need_view w.in-Term.is) (ap (λ v. views v.keys) w.reached-is) (ap (λ v. texts v.keys) w.names-is) (notes_term _ _ _ _ _ _ _ _ c.loop-need.invariant)
      | in-Function w ↦ notes_as _ _ _ _ _ _ _ _ _ (ap need_view w.in-Function.is) (ap (λ v. views v.keys) w.reached-is) (ap (λ v. texts v.keys) w.names-is) (notes_function _ _ _ _ _ _ c.loop-need.invariant)
      | in-Default w ↦ notes_as _ _ _ _ _ _ _ _ _ (ap need_view w.in-Default.is) (ap (λ v. views v.keys) w.reached-is) (ap (λ v. texts v.keys) w.names-is) (notes_default _ _ _ _ _ c.loop-need.invariant)
    ])
