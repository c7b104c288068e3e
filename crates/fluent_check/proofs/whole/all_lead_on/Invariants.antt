use Rattle.std.proofs.Common.{◌≡◌, drop}
use Rattle.fluent_check.specs.Whole.{all_lead_on}
use Rattle.fluent_check.proofs.whole.all_lead_on.Given as goal

abbrev pub invariant-loop-linted : goal.invariant-loop-linted
invariant-loop-linted l = all_lead_on (drop l.linted-index l.list) ≡ all_lead_on l.list
