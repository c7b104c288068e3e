use Rattle.fluent_references.specs.Slots.{slots}
use Rattle.fluent_references.specs.Table.{table as contents}
use Rattle.fluent_bundle_entries.specs.EntryView.{ids, entry_of}
use Rattle.fluent_bundle_entries.specs.IdNumbers.{numbers, table}
use Rattle.fluent_bundle_entries.proofs.Own.{same_own}
use Rattle.fluent_bundle_entries.proofs.ByName.{same_named}
use Rattle.fluent_bundle_entries.proofs.Linking.{same_linked}
use Rattle.fluent_bundle_entries.proofs.ids.Ids.link.Goals as goal

pub returns-clause-same : goal.returns-clause-same
unfolding ids
returns-clause-same g c = λ answer. same_named (λ s. entry_of answer s.entry) (slots c.args.self.now.known) (slots c.link.new.slots) c.link.ensures.named

pub returns-clause-grown : goal.returns-clause-grown
unfolding numbers table
returns-clause-grown g c = (c.link.ensures.numbers, c.link.ensures.classes)

pub returns-clause-linked : goal.returns-clause-linked
unfolding numbers table
returns-clause-linked g c = c.link.ensures.linked

pub invariant_of-self : goal.invariant_of-self
invariant_of-self g c = record {
  named = same_own (slots c.args.self.now.known) (slots c.link.new.slots) c.link.ensures.named c.args.self.now.named;
  linked = same_linked (slots c.args.self.now.known) (slots c.link.new.slots) (contents c.args.self.now.classes) (contents c.link.new.classes) c.link.ensures.numbers c.link.ensures.classes c.link.ensures.named c.args.self.now.linked;
}
