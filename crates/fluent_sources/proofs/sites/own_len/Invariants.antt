use Rattle.std.proofs.Common.{◌≡◌, ◌+◌, drop}
use Rattle.fluent_sources.specs.Sites.{own_len}
use Rattle.fluent_sources.proofs.sites.own_len.Given as goal

abbrev pub invariant-marks : goal.invariant-marks
invariant-marks l = own_len l.marks ≡ l.at + own_len (drop l.at l.marks)
