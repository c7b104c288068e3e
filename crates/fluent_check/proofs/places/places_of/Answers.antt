use Rattle.std.proofs.Common.{◌+◌, ◌++◌, ◌∷◌, List, ◌∙◌, ap, drop, map, sym}
use Rattle.std.proofs.lemmas.List.{append-nil, at_drop_all, at_drop_more}
use Rattle.fluent_places.specs.Places.{names_of, views}
use Rattle.fluent_check.specs.Bundles.{bundle_view}
use Rattle.fluent_check.specs.Places.{first_places, keys_of, place_of}
use Rattle.fluent_sources.specs.Standing.{standing_view, standings}
use Rattle.fluent_sources.specs.declared.standing.Standing.{Standing}
use Rattle.fluent_check.proofs.places.places_of.Goals as goal

pub loop-standing-init : goal.loop-standing-init
loop-standing-init c =
    let named = names_of (bundle_view c.args.bundle.now) in
    let all = map standing_view c.args.standings.now in
    record {
      list =
          ap (λ l. map standing_view l ++ first_places named (views c.new-2.result.keys) all) c.new.ensures.items
          ∙ ap (λ ks. first_places named (views ks) all) c.new-2.ensures.empty;
      keys = ap views c.new-2.ensures.empty ∙ sym (ap (λ l. map place_of (map standing_view l)) c.new.ensures.items);
    }

pub loop-standing-preserved : goal.loop-standing-preserved
loop-standing-preserved c =
    let named = names_of (bundle_view c.args.bundle.now) in
    let all = c.args.standings.now in
    let i = c.loop-standing.standing-index in
    let old = c.loop-standing.places in
    let rest = λ (l : List Standing). standings old.list ++ first_places named (keys_of old) (map standing_view l) in
    record {
      list =
          c.in_ok-add.ensures.rest (map standing_view (drop (i + 1) all))
          ∙ (ap (λ s. rest (s ∷ drop (i + 1) all)) c.standing-item.is
          ∙ (sym (at_drop_more rest all i c.standing-item.result c.loop-standing-test.true) ∙ c.loop-standing.invariant.list));
      keys = c.in_ok-add.ensures.keys c.loop-standing.invariant.keys;
    }

pub returns : goal.returns
returns c =
    let named = names_of (bundle_view c.args.bundle.now) in
    let places = c.loop-standing.places in
    record {
      list =
          sym (append-nil (standings places.list))
          ∙ (sym (at_drop_all (λ l. standings places.list ++ first_places named (keys_of places) (map standing_view l)) c.args.standings.now c.loop-standing.standing-index c.loop-standing-test.false)
          ∙ c.loop-standing.invariant.list);
      keys = c.loop-standing.invariant.keys;
    }
