use Rattle.std.proofs.Common.{◌≡◌, ◌++◌, drop, map}
use Rattle.fluent_places.specs.Asked.{texts}
use Rattle.fluent_places.specs.Places.{place_view}
use Rattle.fluent_patterns.specs.Found.{problem_view}
use Rattle.fluent_patterns.specs.Names.{is_one_of}
use Rattle.fluent_patterns.specs.Terms.{unuseds}
use Rattle.fluent_patterns.proofs.terms.add_unused.Given as goal

abbrev pub invariant-loop-argument : goal.invariant-loop-argument
invariant-loop-argument l =
    map problem_view l.problems.items ++ unuseds (place_view l.term) (texts (drop l.argument-index l.argument-items)) (is_one_of (texts l.asked.keys))
    ≡ map problem_view l.initial.problems.items ++ unuseds (place_view l.term) (texts l.argument-items) (is_one_of (texts l.asked.keys))
