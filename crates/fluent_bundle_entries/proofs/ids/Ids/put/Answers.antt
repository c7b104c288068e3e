use Rattle.std.proofs.Common.{refl}
use Rattle.fluent_references.specs.Slots.{slots}
use Rattle.fluent_references.specs.Table.{table as contents}
use Rattle.fluent_bundle_entries.specs.EntryView.{ids, entry_of}
use Rattle.fluent_bundle_entries.specs.IdNumbers.{numbers, table}
use Rattle.fluent_bundle_entries.proofs.Own.{put_own}
use Rattle.fluent_bundle_entries.proofs.ByName.{put_named}
use Rattle.fluent_bundle_entries.proofs.Linking.{put_linked}
use Rattle.fluent_bundle_entries.proofs.ids.Ids.put.Goals as goal

pub returns-clause-after : goal.returns-clause-after
unfolding ids numbers
returns-clause-after g c = λ id at answer. put_named (λ s. entry_of answer s.entry) (slots c.args.self.now.known) (slots c.fill.new.self) id c.args.slot (c.fill.ensures.filled id at)

pub returns-clause-numbers : goal.returns-clause-numbers
unfolding numbers
returns-clause-numbers g c = c.fill.ensures.numbers

pub returns-clause-table : goal.returns-clause-table
unfolding table
returns-clause-table g c = refl

pub invariant_of-self : goal.invariant_of-self
unfolding numbers table
invariant_of-self g c =
    let own = c.requires.own in
    record {
      named = put_own (slots c.args.self.now.known) (slots c.fill.new.self) own.0 c.args.slot (c.fill.ensures.filled own.0 own.1) own.2 c.args.self.now.named;
      linked = put_linked (slots c.args.self.now.known) (slots c.fill.new.self) (contents c.args.self.now.classes) own.0 c.args.slot c.fill.ensures.numbers (c.fill.ensures.filled own.0 own.1) c.requires.linked c.args.self.now.linked;
    }
