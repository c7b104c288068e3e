use Rattle.std.proofs.Common.{◌≡◌, ◌++◌, drop, map}
use Rattle.fluent_patterns.specs.Found.{flaws_in, problem_view}
use Rattle.fluent_patterns.specs.Numbered.{at_reference}
use Rattle.fluent_patterns.proofs.numbered.add_problems.Given as goal

abbrev pub invariant-loop-problem : goal.invariant-loop-problem
invariant-loop-problem l =
    flaws_in l.flaws ++ at_reference l.number (map problem_view (drop l.problem-index l.problems))
    ≡ flaws_in l.initial.flaws ++ at_reference l.number (map problem_view l.problems)
