use Rattle.std.proofs.Common.{◌∷◌, [], ◌∙◌, ap, map, not, refl, sym}
use Rattle.std.proofs.lemmas.List.{map-append}
use Rattle.fluent_places.specs.Places.{names_of}
use Rattle.fluent_check.specs.Bundles.{bundle_view}
use Rattle.fluent_sources.specs.Standing.{standing_view, standings}
use Rattle.fluent_check.proofs.PlacesOf.{among, more_keys, more_rest, same_keys, same_rest}
use Rattle.fluent_check.proofs.places.Places.add.Goals as goal

pub returns-in_ok-push : goal.returns-in_ok-push
returns-in_ok-push c =
    let named = names_of (bundle_view c.args.bundle.now) in
    let s = standing_view c.args.standing.now in
    let x = c.args.standing.now.site.now.place in
    let old = c.args.self.now in
    let keys = old.keys.keys in
    let after = c.insert.new.self.keys in
    let some = sym c.stands.ensures ∙ c.if-not-stands.false in
    let new = among x keys c.in_ok-insert.field-0 c.in_ok-insert.ensures.added ∙ ap not c.if-branch.true in
    let pushed = ap (map standing_view) c.in_ok-push.ensures.items ∙ map-append standing_view old.list.items (c.args.standing.now ∷ []) in
    record {
      rest = more_rest named s x keys after refl some c.in_ok-insert.ensures.keys new (standings old.list) (standings c.push.new.self) pushed;
      keys = more_keys named s x keys after refl some c.in_ok-insert.ensures.keys new (standings old.list) (standings c.push.new.self) pushed;
    }

pub returns-else-branch : goal.returns-else-branch
returns-else-branch c =
    let named = names_of (bundle_view c.args.bundle.now) in
    let s = standing_view c.args.standing.now in
    let x = c.args.standing.now.site.now.place in
    let old = c.args.self.now in
    let keys = old.keys.keys in
    let after = c.insert.new.self.keys in
    let some = sym c.stands.ensures ∙ c.if-not-stands.false in
    let there = among x keys c.in_ok-insert.field-0 c.in_ok-insert.ensures.added ∙ ap not c.if-branch.false in
    record {
      rest = same_rest named s x keys after refl some c.in_ok-insert.ensures.keys there (standings old.list);
      keys = same_keys named s x keys after refl some c.in_ok-insert.ensures.keys there (standings old.list);
    }
