use Rattle.std.proofs.Common.{◌≡◌, ◌==◌, [], true, sym, ◌∙◌, rules, arith}
use Rattle.fluent_ast.specs.View.{pattern_view}
use Rattle.fluent_places.specs.Places.{place_view}
use Rattle.fluent_places.specs.Facts.Growing.{no_items}
use Rattle.fluent_places.specs.Facts.Targets.{some_there}
use Rattle.fluent_clean.proofs.Explained.{explained_at, all_well}
use Rattle.fluent_clean.proofs.Settled.{right}
use Rattle.fluent_clean.proofs.checking.look_at.Goals as goal

pub returns-then-is_empty : goal.returns-then-is_empty
returns-then-is_empty g c =
    let empty : (c.in_ok-findings.findings.len == 0) ≡ true = sym c.is_empty.ensures ∙ c.if-is_empty.true in
    let none : c.in_ok-findings.findings.len ≡ 0 = search (rules, empty) in
    let nil : c.in_ok-findings.findings.items ≡ [] = no_items _ (omega (arith, none, c.in_ok-findings.findings.ok)) in
    right _ _ c.met_is_clean.ensures (place_view c.args.place.now) (pattern_view c.in-Some.pattern.now) _ (some_there _ _ c.in-Some.ensures) (all_well _ _ _ _ nil c.in_ok-findings.ensures.every) c.most_opened.ensures

pub returns : goal.returns
returns g c = (search (rules, c.is_empty.ensures, c.if-is_empty.false), explained_at _ _ _ (pattern_view c.in-Some.pattern.now) _ (some_there _ _ c.in-Some.ensures) c.in_ok-findings.ensures)
