use Rattle.std.proofs.Common.{◌≡◌, ◌++◌, take, map}
use Rattle.fluent_ast.specs.Tree.{Text}
use Rattle.fluent_ast.specs.View.{entry_view}
use Rattle.fluent_semantics.specs.Bundle.{Function, added, not_added}
use Rattle.fluent_bundle_entries.specs.Changes.{KeepsEntries}
use Rattle.fluent_bundle_entries.specs.EntryView.{ids}
use Rattle.fluent_bundle_entries.specs.IdNumbers.{Grown}
use Rattle.fluent_bundle_entries.specs.ErrorView.{error_view}
use Rattle.fluent_adding.specs.Inside.AddingSteps.{once_put}
use Rattle.fluent_adding.specs.Inside.WaitingEntries.{AreMarked, AreReadyFor}
use Rattle.fluent_adding.proofs.adding.add_all.Given as goal

-- the entries so far wait or are reported, and no id names anything else
abbrev pub invariant-entries : goal.invariant-entries
invariant-entries g l = record {
  ready : AreReadyFor l.known l.entries l.waiting;
  marked : AreMarked l.marks.items l.waiting.list.items;
  after : (answer : _ → Function Text) → once_put answer l.fn.known l.entries l.waiting ≡ added (map entry_view (take l.index l.entries)) (ids answer l.fn.known);
  told : (answer : _ → Function Text) → map error_view l.errors.items ≡ map error_view l.fn.errors.items ++ not_added (map entry_view (take l.index l.entries)) (ids answer l.fn.known);
  grown : Grown l.fn.known l.known;
  same : KeepsEntries l.fn.known l.known;
}
