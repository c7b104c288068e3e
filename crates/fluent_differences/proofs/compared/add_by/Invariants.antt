use Rattle.std.proofs.Common.{◌≡◌, ◌++◌, drop, map}
use Rattle.fluent_places.specs.Asked.{texts}
use Rattle.fluent_places.specs.NeedsView.{need_view}
use Rattle.fluent_patterns.specs.Found.{flaws_in}
use Rattle.fluent_differences.specs.Compared.{firsts, flaws_by, told_from}
use Rattle.fluent_differences.proofs.compared.add_by.Given as goal

abbrev pub invariant-loop-number : goal.invariant-loop-number
invariant-loop-number g l = flaws_in l.flaws ++ firsts (texts l.names.keys) (told_from (g.R.Rule.rule l.rule) l.number (map need_view (drop l.number l.list))) ≡ flaws_in l.initial.flaws ++ flaws_by (g.R.Rule.rule l.rule) (map need_view l.list)
