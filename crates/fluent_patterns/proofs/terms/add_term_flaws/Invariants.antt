use Rattle.std.proofs.Common.{◌≡◌, ◌++◌, drop, map}
use Rattle.fluent_places.specs.NeedsView.{need_view}
use Rattle.fluent_patterns.specs.Found.{flaws_in}
use Rattle.fluent_patterns.specs.Numbered.{flaws_from}
use Rattle.fluent_patterns.specs.Terms.{asks_of, term_problems}
use Rattle.fluent_patterns.proofs.terms.add_term_flaws.Given as goal

abbrev pub invariant-loop-number : goal.invariant-loop-number
invariant-loop-number g l =
    flaws_in l.flaws ++ flaws_from (term_problems (g.B.GetEntry.named l.bundle) (asks_of l.terms)) l.number (map need_view (drop l.number l.need-items))
    ≡ flaws_in l.initial.flaws ++ flaws_from (term_problems (g.B.GetEntry.named l.bundle) (asks_of l.terms)) 0 (map need_view l.need-items)
