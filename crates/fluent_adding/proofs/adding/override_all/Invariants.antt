use Rattle.std.proofs.Common.{◌≡◌, take, map}
use Rattle.fluent_ast.specs.View.{entry_view}
use Rattle.fluent_bundle_entries.specs.Changes.{KeepsEntries}
use Rattle.fluent_bundle_entries.specs.IdNumbers.{Grown}
use Rattle.fluent_adding.specs.Inside.WaitingEntries.{AreReadyFor, given, given_by}
use Rattle.fluent_adding.proofs.adding.override_all.Given as goal

-- the entries so far wait, and no id names anything else
abbrev pub invariant-entries : goal.invariant-entries
invariant-entries g l = record {
  ready : AreReadyFor l.known l.entries l.waiting;
  given : given_by l.entries l.waiting.list.items ≡ given (map entry_view (take l.index l.entries));
  grown : Grown l.fn.known l.known;
  same : KeepsEntries l.fn.known l.known;
}
