use Rattle.std.proofs.Common.{◌≡◌, map, take}
use Rattle.fluent_ast.specs.View.{entry_view}
use Rattle.fluent_ast.proofs.same_entries.same_entries.Given as goal

abbrev pub invariant-entries : goal.invariant-entries
invariant-entries l = map entry_view (take l.i l.a) ≡ map entry_view (take l.i l.b)
