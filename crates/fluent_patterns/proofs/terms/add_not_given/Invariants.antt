use Rattle.std.proofs.Common.{◌≡◌, ◌++◌, drop, map}
use Rattle.fluent_places.specs.Asked.{texts}
use Rattle.fluent_places.specs.Places.{place_view}
use Rattle.fluent_patterns.specs.Found.{problem_view}
use Rattle.fluent_patterns.specs.Terms.{not_givens}
use Rattle.fluent_patterns.proofs.terms.add_not_given.Given as goal

abbrev pub invariant-loop-variable : goal.invariant-loop-variable
invariant-loop-variable l =
    map problem_view l.problems.items ++ not_givens (place_view l.term) (texts l.given.keys) (texts (drop l.variable-index l.variable-items))
    ≡ map problem_view l.initial.problems.items ++ not_givens (place_view l.term) (texts l.given.keys) (texts l.variable-items)
