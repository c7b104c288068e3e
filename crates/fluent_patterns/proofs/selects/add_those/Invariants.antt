use Rattle.std.proofs.Common.{◌≡◌, ◌++◌, drop}
use Rattle.fluent_patterns.specs.Found.{flaws_in}
use Rattle.fluent_patterns.specs.Selects.{is_lacked}
use Rattle.fluent_patterns.specs.SelectView.{senses_view}
use Rattle.fluent_patterns.proofs.Lacking.{told}
use Rattle.fluent_patterns.proofs.selects.add_those.Given as goal

abbrev pub invariant-loop-category : goal.invariant-loop-category
invariant-loop-category l =
    let test = is_lacked l.all (senses_view l.senses) l.otherwise in
    flaws_in l.flaws ++ told l.number test (drop l.category-index l.asked) ≡ flaws_in l.fn.flaws ++ told l.number test l.asked
