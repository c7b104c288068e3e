use Rattle.std.proofs.Common.{◌∙◌, ap, sym}
use Rattle.std.specs.Cow.{cow_str_bytes}
use Rattle.std.specs.Map.Iter.{deref_pair}
use Rattle.std.specs.Option.{option_map}
use Rattle.fluent_references.specs.Slots.{slots}
use Rattle.fluent_references.proofs.Slotted.{by_number, copied_now, slot_of_entry}
use Rattle.fluent_references.proofs.slots.Slots.at.Goals as goal

pub returns-clause-by_id : goal.returns-clause-by_id
unfolding slots
returns-clause-by_id g c = λ id at.
    copied_now c.as_ref.result
    ∙ (c.as_ref.ensures.value
    ∙ (slot_of_entry cow_str_bytes c.args.self.now.ids.entries c.args.number (deref_pair (c.in_ok-slot.field-0-0, c.in_ok-slot.slot)) (sym (ap (option_map deref_pair) c.in_ok-slot.was) ∙ c.get_index.ensures.entry)
    ∙ by_number (slots c.args.self.now) id c.args.number at))
