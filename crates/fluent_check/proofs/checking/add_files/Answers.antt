use Rattle.std.proofs.Common.{◌≡◌, ◌∙◌, ap, codes, map}
use Rattle.fluent_places.specs.Places.{names_of}
use Rattle.fluent_patterns.specs.CategoryView.{categories_view}
use Rattle.fluent_check.specs.Bundles.{bundle_view}
use Rattle.fluent_check.specs.Differences.{reference_names}
use Rattle.fluent_sources.specs.Groups.{entries_loaded, group_view, loaded}
use Rattle.fluent_check.specs.Languages.{all_of}
use Rattle.fluent_check.specs.Looks.{bundle_in, places_in, standings_loaded}
use Rattle.fluent_check.specs.Places.{places_of}
use Rattle.fluent_sources.specs.Standing.{standing_view, standings}
use Rattle.fluent_check.specs.Faultless.{tag_of}
use Rattle.fluent_check.proofs.CalledPlaces.{clean_ok}
use Rattle.fluent_check.proofs.Looking.{one_look}
use Rattle.fluent_check.proofs.checking.add_files.Goals as goal

pub returns-clause-looks : goal.returns-clause-looks
returns-clause-looks c =
    let settings = c.args.settings.now in
    let g = group_view c.args.group.now in
    let b = bundle_view c.in_ok-bundle.bundle in
    let places = c.in_ok-places.places in
    let b_is : b ≡ bundle_in settings g = c.in_ok-bundle.ensures ∙ ap (λ t. all_of t (entries_loaded g)) c.tag_of.ensures in
    let all : map standing_view c.as_slice-2.result.now ≡ standings_loaded g = ap (map standing_view) c.as_slice-2.ensures.value ∙ c.in_ok-standings.ensures in
    let there_is : names_of (bundle_view c.in_ok-english.english) ≡ reference_names g = ap names_of (c.in_ok-english.ensures ∙ ap (λ h. all_of (codes "en") (entries_loaded h)) c.alone-references.ensures) in
    one_look settings g c.args.findings.now c.add_names.new.findings c.add_of_patterns.new.findings c.add_compared.new.findings c.add_linted.new.findings
    c.add_linted.result b (names_of (bundle_view c.in_ok-english.english)) (categories_view c.args.categories.now) (map standing_view c.as_slice.result.now) (standings places.list) b_is there_is c.requires
    (ap (map standing_view) c.as_slice.ensures.value ∙ c.in_ok-standings.ensures)
    (c.in_ok-places.ensures.list ∙ (ap (places_of (names_of b)) all ∙ ap (λ d. places_of (names_of d) (standings_loaded g)) b_is))
    c.in_ok-add_names.ensures c.in_ok-add_of_patterns.ensures c.in_ok-add_compared.ensures c.add_linted.ensures.linted

pub returns-clause-clean : goal.returns-clause-clean
returns-clause-clean c =
    let settings = c.args.settings.now in
    let g = group_view c.args.group.now in
    let b = bundle_view c.in_ok-bundle.bundle in
    let places = c.in_ok-places.places in
    let b_is : b ≡ bundle_in settings g = c.in_ok-bundle.ensures ∙ ap (λ t. all_of t (entries_loaded g)) c.tag_of.ensures in
    let all : map standing_view c.as_slice-2.result.now ≡ standings_loaded g = ap (map standing_view) c.as_slice-2.ensures.value ∙ c.in_ok-standings.ensures in
    clean_ok c.add_linted.result (tag_of settings.language) (loaded g) b (standings places.list) b_is
    (c.in_ok-places.ensures.list ∙ (ap (places_of (names_of b)) all ∙ ap (λ d. places_of (names_of d) (standings_loaded g)) b_is))
    c.add_linted.ensures.clean

pub add_compared-requires-clause-english : goal.add_compared-requires-clause-english
add_compared-requires-clause-english c =
    ap names_of (c.in_ok-english.ensures ∙ ap (λ h. all_of (codes "en") (entries_loaded h)) c.alone-references.ensures)
