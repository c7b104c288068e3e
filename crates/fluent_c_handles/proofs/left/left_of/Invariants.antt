use Rattle.std.proofs.Common.{map, take}
use Rattle.fluent_ast.specs.View.{entry_view}
use Rattle.fluent_c_handles.specs.Inside.Seen.{IsSeen}
use Rattle.fluent_c_handles.proofs.left.left_of.Given as goal

abbrev pub invariant-loop-k : goal.invariant-loop-k
invariant-loop-k g l = IsSeen l.ids (map entry_view (take l.k l.entries)) l.seen
