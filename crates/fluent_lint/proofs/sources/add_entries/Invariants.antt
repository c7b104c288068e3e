use Rattle.std.proofs.Common.{map, take}
use Rattle.fluent_ast.specs.View.{entry_view}
use Rattle.fluent_lint.specs.Twice.{defined_from}
use Rattle.fluent_lint.specs.Inside.Seen.{GoesOver}
use Rattle.fluent_lint.proofs.sources.add_entries.Given as goal

abbrev pub invariant-loop-k : goal.invariant-loop-k
invariant-loop-k l = GoesOver (defined_from l.resource 0 (map entry_view (take l.k l.entries))) l.initial.seen l.seen
