use Rattle.fluent_patterns.specs.Terms.{AreShown}
use Rattle.fluent_patterns.proofs.terms.shown_at.Given as goal

abbrev pub invariant-loop-place : goal.invariant-loop-place
invariant-loop-place g l = AreShown (g.B.GetEntry.named l.bundle) l.table.entries
