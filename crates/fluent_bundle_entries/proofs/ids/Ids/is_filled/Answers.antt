use Rattle.std.proofs.Common.{◌∙◌}
use Rattle.fluent_references.specs.Slots.{slots}
use Rattle.fluent_bundle_entries.specs.EntryView.{ids, entry_of}
use Rattle.fluent_bundle_entries.specs.IdNumbers.{numbers}
use Rattle.fluent_bundle_entries.proofs.ByName.{is_named_by}
use Rattle.fluent_bundle_entries.proofs.ids.Ids.is_filled.Goals as goal

pub returns : goal.returns
unfolding ids numbers
returns g c = λ id at answer. c.is_some.ensures ∙ is_named_by (λ s. entry_of answer s.entry) (slots c.args.self.now.known) id c.at.result (c.at.ensures.by_id id at)
