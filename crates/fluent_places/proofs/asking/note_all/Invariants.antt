use Rattle.std.proofs.Common.{map, take}
use Rattle.fluent_places.specs.Asked.{texts}
use Rattle.fluent_places.specs.Places.{views}
use Rattle.fluent_places.specs.NeedsView.{need_view}
use Rattle.fluent_places.specs.Inside.Reached.{NotesOf}
use Rattle.fluent_places.proofs.asking.note_all.Given as goal

abbrev pub invariant-loop-need : goal.invariant-loop-need
invariant-loop-need l = NotesOf (map need_view (take l.need-index l.list)) (views l.initial.reached.keys) (views l.reached.keys) (texts l.initial.names.keys) (texts l.names.keys)
