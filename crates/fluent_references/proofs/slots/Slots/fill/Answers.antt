use Rattle.std.proofs.Common.{◌∙◌, ap, position, sym}
use Rattle.std.specs.Cow.{cow_str_bytes}
use Rattle.std.specs.Option.{option_copied_mut}
use Rattle.std.specs.Str.{bytes_eq}
use Rattle.fluent_references.specs.Slots.{slots}
use Rattle.fluent_references.proofs.Slotted.{keys_set, filled, set_seen, set_past}
use Rattle.fluent_references.proofs.slots.Slots.fill.Goals as goal

pub returns-in-Some-clause-numbers : goal.returns-in-Some-clause-numbers
unfolding slots
returns-in-Some-clause-numbers g c = λ id. ap (position (bytes_eq id)) (keys_set cow_str_bytes c.args.self.now.ids.entries c.args.number c.args.x)

pub returns-in-Some-clause-filled : goal.returns-in-Some-clause-filled
unfolding slots
returns-in-Some-clause-filled g c = filled cow_str_bytes c.args.self.now.ids.entries c.args.number c.args.x

pub returns-in-Some-clause-set : goal.returns-in-Some-clause-set
unfolding slots
returns-in-Some-clause-set g c = set_seen cow_str_bytes c.args.self.now.ids.entries c.args.number c.args.x

pub returns-in_default-clause-set : goal.returns-in_default-clause-set
unfolding slots
returns-in_default-clause-set g c = set_past cow_str_bytes c.args.self.now.ids.entries c.args.number c.args.x (sym c.get_index_mut.ensures.value ∙ ap option_copied_mut c.in_default.is)
