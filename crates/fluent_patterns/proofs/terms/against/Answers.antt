use Rattle.std.proofs.Common.{◌≡◌, ◌∙◌, None, map, rules}
use Rattle.fluent_places.specs.Asked.{list_of, texts}
use Rattle.fluent_places.specs.Places.{place_view}
use Rattle.fluent_patterns.specs.Found.{problem_view}
use Rattle.fluent_patterns.specs.Terms.{not_givens}
use Rattle.fluent_patterns.proofs.Kept.{nothing_unused}
use Rattle.fluent_patterns.proofs.terms.against.Goals as goal

pub returns-in_default : goal.returns-in_default
returns-in_default c =
    let x = place_view c.args.term.now in
    let given = texts c.args.given.now.keys in
    let shown = texts c.args.shown.now.keys in
    let added : map problem_view c.add_not_given.new.problems.items ≡ not_givens x given shown = search rules in
    let none : None ≡ list_of c.args.asked.now x = search rules in
    added ∙ nothing_unused x given shown c.args.asked.now none
