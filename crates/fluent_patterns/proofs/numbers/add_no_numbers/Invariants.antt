use Rattle.std.proofs.Common.{◌≡◌, ◌++◌, drop}
use Rattle.fluent_patterns.specs.Found.{flaws_in}
use Rattle.fluent_patterns.specs.Numbered.{flaws_from}
use Rattle.fluent_patterns.specs.Numbers.{problems_if}
use Rattle.fluent_patterns.proofs.numbers.add_no_numbers.Given as goal

abbrev pub invariant-loop-number : goal.invariant-loop-number
invariant-loop-number l =
    flaws_in l.flaws ++ flaws_from problems_if l.number (drop l.number l.is_one-items)
    ≡ flaws_in l.initial.flaws ++ flaws_from problems_if 0 l.is_one-items
