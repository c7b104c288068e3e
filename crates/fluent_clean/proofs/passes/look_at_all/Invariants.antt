use Rattle.std.proofs.Common.{take}
use Rattle.fluent_clean.specs.Inside.Steps.{Looked}
use Rattle.fluent_clean.proofs.passes.look_at_all.Given as goal

abbrev pub invariant-loop-i : goal.invariant-loop-i
invariant-loop-i g l = Looked (g.B.GetEntry.named l.bundle) l.limit l.table.entries (take l.i l.table.entries) l.findings.items
