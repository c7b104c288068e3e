use Rattle.std.proofs.Common.{length}
use Rattle.self_borrow.specs.Loans.{AreFor}
use Rattle.self_borrow.proofs.shelf.regain_all.Given as goal

-- what is left is due
abbrev pub invariant-loop-loan : goal.invariant-loop-loan
invariant-loop-loan g l = AreFor l.ended.life l.loans.items

abbrev pub decreases-loop-loan : goal.decreases-loop-loan
decreases-loop-loan g l = length l.loans.items
