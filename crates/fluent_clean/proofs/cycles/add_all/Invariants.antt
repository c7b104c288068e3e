use Rattle.std.proofs.Common.{ℕ}
use Rattle.fluent_clean.specs.Inside.Steps.{AddsTrue}
use Rattle.fluent_clean.proofs.cycles.add_all.Given as goal

abbrev pub invariant-loop-cycle : goal.invariant-loop-cycle
invariant-loop-cycle g l = (limit : ℕ) → AddsTrue (g.B.GetEntry.named l.bundle) limit l.initial.findings.items l.findings.items
