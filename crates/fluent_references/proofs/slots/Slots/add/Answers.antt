use Rattle.fluent_references.specs.Slots.{slots}
use Rattle.fluent_references.proofs.Slotted.{added_seen}
use Rattle.fluent_references.proofs.slots.Slots.add.Goals as goal

pub returns-clause-ok : goal.returns-clause-ok
unfolding slots
returns-clause-ok g c = added_seen c.args.self.now.ids c.args.id c.insert.new.self.entries c.requires c.in_ok-insert.ensures.entries
