use Rattle.std.proofs.Common.{◌≡◌, ◌++◌, length}
use Rattle.std.specs.Vec.Iter.{into_iter_items, into_iter_len}
use Rattle.fluent_ast.specs.Tree.{Text}
use Rattle.fluent_semantics.specs.Arguments.{set_all}
use Rattle.fluent_semantics.specs.Bundle.{Function}
use Rattle.fluent_bundle_entries.specs.EntryView.{ids}
use Rattle.fluent_bundle_entries.specs.IdNumbers.{Grown, numbers, table}
use Rattle.fluent_adding.specs.Inside.WaitingEntries.{AreReady, given_by}
use Rattle.fluent_adding.proofs.adding.put_all.Given as goal

-- what is left has the numbers of its ids and what is kept of it, and makes of the ids what all of it would
abbrev pub invariant-loop-ready : goal.invariant-loop-ready
invariant-loop-ready g l = record {
  whole : l.fn.waiting.list.items ≡ l.yielded ++ into_iter_items l.ready-iterator;
  full : into_iter_len l.kept ≡ length (into_iter_items l.kept);
  ready : AreReady (numbers l.known) (table l.known) l.entries (into_iter_items l.ready-iterator) (into_iter_items l.kept);
  grown : Grown l.fn.known l.known;
  same : (answer : _ → Function Text) → set_all (given_by l.entries (into_iter_items l.ready-iterator)) (ids answer l.known) ≡ set_all (given_by l.entries l.fn.waiting.list.items) (ids answer l.fn.known);
}
