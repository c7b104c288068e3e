use Rattle.std.proofs.Common.{◌≡◌, ◌++◌, ◌∙◌, List, ap, map, subst}
use Rattle.std.specs.Result.{OnOk}
use Rattle.fluent_patterns.specs.Found.{AddsFound, Flaw, flaw_view}
use Rattle.fluent_check.specs.Alone.{Side, side_view, unreferenced}
use Rattle.fluent_check.specs.Differences.{compared, edition_view, side_of}
use Rattle.fluent_check.specs.Places.{place_of}
use Rattle.fluent_sources.specs.Standing.{flaws_at, standing_view}
use Rattle.fluent_check.proofs.referred.add_here.Goals as goal

pub returns : goal.returns
returns c =
    let s = standing_view c.args.standing.now in
    let reference = edition_view c.args.reference.now in
    let translation = edition_view c.args.translation.now in
    let both = compared reference translation (place_of s) in
    let alone : Side → Side → List Flaw = λ r t. unreferenced r t (place_of s) in
    let flaws : map flaw_view c.as_slice.result.now ≡ both ++ alone (side_of reference) (side_of translation) =
    ap (map flaw_view) c.as_slice.ensures.value
    ∙ (c.in_ok-add_unreferenced.ensures
    ∙ (ap (λ l. l ++ alone (side_view c.side.result) (side_view c.side-2.result)) c.in_ok-flaws.ensures
    ∙ (ap (λ r. both ++ alone r (side_view c.side-2.result)) c.side.ensures ∙ ap (λ t. both ++ alone (side_of reference) t) c.side-2.ensures))) in
    subst (λ l. OnOk c.add_flaws.result (AddsFound (flaws_at s l) c.args.findings.now c.add_flaws.new.findings)) flaws c.add_flaws.ensures
