use Rattle.std.proofs.Common.{◌≡◌, ◌++◌, drop}
use Rattle.fluent_patterns.specs.Found.{found_in}
use Rattle.fluent_check.specs.Inside.Places.{place_found}
use Rattle.fluent_check.specs.Whole.{found_wholes, wholes}
use Rattle.fluent_check.proofs.checking.add_wholes.Given as goal

abbrev pub invariant-loop-whole : goal.invariant-loop-whole
invariant-loop-whole l =
    found_in l.findings ++ found_wholes (place_found l.places) (wholes (drop l.whole-index l.list))
    ≡ found_in l.initial.findings ++ found_wholes (place_found l.places) (wholes l.list)
