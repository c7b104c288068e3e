use Rattle.std.proofs.Common.{◌≡◌, ◌∙◌, ap, length, map, refl, sym}
use Rattle.std.proofs.lemmas.List.{length-map}
use Rattle.fluent_places.specs.Places.{names_of}
use Rattle.fluent_check.specs.Bundles.{bundle_view}
use Rattle.fluent_check.specs.Differences.{edition_view, reference_names, reference_places}
use Rattle.fluent_sources.specs.Groups.{group_view, loaded}
use Rattle.fluent_check.specs.Places.{places_of}
use Rattle.fluent_sources.specs.ReadFiles.{file_view}
use Rattle.fluent_sources.specs.Standing.{standing_view, standings, standings_in}
use Rattle.fluent_check.proofs.Editions.{all_ok, asked_of, edition_asks, edition_is}
use Rattle.fluent_check.proofs.checking.add_differences.Goals as goal

pub returns : goal.returns
returns c =
    let g = group_view c.args.group.now in
    let english = c.args.english.now in
    let there = c.in_ok-there.there in
    let reference = c.in_ok-reference.reference in
    let translation = c.in_ok-translation.translation in
    let places = c.args.places.now in
    let named = names_of (bundle_view c.args.bundle.now) in
    let named_is : names_of (bundle_view english) ≡ reference_names g = c.requires.english in
    let all : map standing_view c.as_slice.result.now ≡ standings_in g.references =
    ap (map standing_view) c.as_slice.ensures.value ∙ (c.in_ok-standings.ensures ∙ ap (λ h. standings_in (loaded h)) c.alone-references.ensures) in
    let ss_are : standings there.list ≡ reference_places g =
    c.in_ok-there.ensures.list ∙ (ap (places_of (names_of (bundle_view english))) all ∙ ap (λ n. places_of n (standings_in g.references)) named_is) in
    all_ok c.add_referred.result g named (standings places.list) c.args.findings.now c.add_referred.new.findings (length c.args.group.now.beside.now)
    (edition_view reference) (edition_view translation) (asked_of reference.asked) (asked_of translation.asked)
    (edition_is reference english there (reference_names g) (reference_places g) c.in_ok-reference.ensures named_is ss_are c.in_ok-there.ensures.keys)
    (edition_is translation c.args.bundle.now places named (standings places.list) c.in_ok-translation.ensures refl refl c.requires.keys)
    (sym (length-map c.args.group.now.beside.now file_view))
    (edition_asks reference english there (reference_names g) (reference_places g) c.in_ok-reference.ensures named_is ss_are c.in_ok-there.ensures.keys)
    (edition_asks translation c.args.bundle.now places named (standings places.list) c.in_ok-translation.ensures refl refl c.requires.keys)
    c.add_referred.ensures
