use Rattle.std.proofs.Common.{sym, ap, ◌∙◌}
use Rattle.fluent_ast.specs.Tree.{is_yes}
use Rattle.fluent_places.specs.Places.{place_same, place_view, views}
use Rattle.fluent_places.specs.Needs.{IsAmong}
use Rattle.fluent_places.proofs.Gathering.{found_among, place_test}
use Rattle.fluent_places.proofs.Shared.{joined}
use Rattle.fluent_places.proofs.settling.join.Goals as goal

pub returns-in_ok-share : goal.returns-in_ok-share
returns-in_ok-share g c =
    let y = c.args.place.now in
    let keys = c.args.reached.now.keys in
    let among : IsAmong (place_view y) (views keys) = found_among place_view (λ a b. is_yes (place_same (place_view a) (place_view b))) place_test y keys (sym c.contains.ensures ∙ c.if-contains.true) in
    joined (g.B.GetEntry.named c.args.bundle.now) c.args.asked.now c.share.new.self y c.args.index (views keys) c.requires.listed c.requires.covers among (c.in_ok-leads_to.ensures c.if-branch.true) (ap (λ l. l.items) c.in_ok-share.ensures.lists) c.in_ok-share.ensures.place
