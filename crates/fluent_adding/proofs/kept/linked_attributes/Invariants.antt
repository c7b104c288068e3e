use Rattle.std.proofs.Common.{take}
use Rattle.fluent_bundle_entries.specs.Changes.{KeepsEntries}
use Rattle.fluent_bundle_entries.specs.KeptLinks.{AreOf, patterns}
use Rattle.fluent_bundle_entries.specs.IdNumbers.{Grown, numbers, table}
use Rattle.fluent_adding.proofs.kept.linked_attributes.Given as goal

-- one is kept of each attribute so far, and no id names anything else
abbrev pub invariant-loop-attribute : goal.invariant-loop-attribute
invariant-loop-attribute g l = record {
  linked : AreOf (numbers l.known) (table l.known) (patterns (take l.attribute-index l.attributes)) l.list.items;
  grown : Grown l.fn.known l.known;
  same : KeepsEntries l.fn.known l.known;
}
