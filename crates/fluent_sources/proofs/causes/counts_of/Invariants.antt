use Rattle.std.proofs.Common.{◌≡◌, map, take}
use Rattle.fluent_patterns.specs.Found.{found_view}
use Rattle.fluent_sources.specs.Causes.{cause_of, count_of}
use Rattle.fluent_sources.specs.Inside.Causes.{cause_view, number_in}
use Rattle.fluent_sources.specs.declared.causes.Cause.{Cause}
use Rattle.fluent_sources.proofs.causes.counts_of.Given as goal

abbrev pub invariant-loop-finding : goal.invariant-loop-finding
invariant-loop-finding l =
    (c : Cause) → number_in l.table (cause_view c) ≡ count_of (cause_view c) (map cause_of (map found_view (take l.finding-index l.findings)))
