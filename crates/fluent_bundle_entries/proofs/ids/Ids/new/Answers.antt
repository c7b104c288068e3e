use Rattle.fluent_references.specs.Slots.{slots}
use Rattle.fluent_bundle_entries.specs.EntryView.{ids, entry_of}
use Rattle.fluent_bundle_entries.proofs.ByName.{none_filled}
use Rattle.fluent_bundle_entries.proofs.ids.Ids.new.Goals as goal

pub returns : goal.returns
unfolding ids
returns g c = λ answer. none_filled (λ s. entry_of answer s.entry) (slots c.new.result) c.new.ensures
