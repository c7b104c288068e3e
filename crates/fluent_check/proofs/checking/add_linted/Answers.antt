use Rattle.std.proofs.Common.{◌≡◌, ◌∙◌, ◌++◌, ap, map, subst}
use Rattle.fluent_places.specs.Asked.{texts}
use Rattle.fluent_places.specs.Places.{names_of}
use Rattle.fluent_patterns.specs.Found.{found_in}
use Rattle.fluent_check.specs.Bundles.{bundle_view}
use Rattle.fluent_check.specs.Called.{with_functions}
use Rattle.fluent_sources.specs.Groups.{entries_loaded, group_view}
use Rattle.fluent_check.specs.Inside.Places.{place_found}
use Rattle.fluent_check.specs.Linted.{AreLinted, NoneFails}
use Rattle.fluent_check.specs.Patterns.{called_in}
use Rattle.fluent_check.specs.Places.{first_at, keys_of}
use Rattle.fluent_sources.specs.Standing.{standings}
use Rattle.fluent_check.specs.Tried.{is_shown}
use Rattle.fluent_check.specs.Whole.{found_wholes, wholes, whole_problems}
use Rattle.fluent_check.proofs.Looking.{same_wholes}
use Rattle.fluent_check.proofs.PlacesOf.{found_first}
use Rattle.fluent_check.proofs.checking.add_linted.Goals as goal

pub returns-clause-linted : goal.returns-clause-linted
returns-clause-linted c =
    let b = bundle_view c.args.bundle.now in
    let places = c.args.places.now in
    let ss = standings places.list in
    let files = entries_loaded (group_view c.args.group.now) in
    let linted = c.in_ok-linted.ensures.linted in
    let ids : texts c.as_slice.result.now ≡ called_in (names_of b) ss = ap texts c.as_slice.ensures.value ∙ c.in_ok-called.ensures in
    let with_called = c.in_ok-add_functions.ensures ∙ ap (λ l. with_functions l b) ids in
    record {
      list = linted.list;
      right = subst (λ d. AreLinted d files linted.list) with_called linted.are;
      found_is =
          c.in_ok-add_wholes.ensures
          ∙ (ap (λ l. found_in c.args.findings.now ++ found_wholes (place_found places) l) (ap wholes c.as_slice-2.ensures.value ∙ (linted.problems ∙ ap (λ d. whole_problems (is_shown d) linted.list) with_called))
          ∙ ap (λ l. found_in c.args.findings.now ++ l) (same_wholes (place_found places) (λ x. first_at x ss) (λ x. found_first x ss (keys_of places) c.requires) (whole_problems (is_shown (with_functions (called_in (names_of b) ss) b)) linted.list)));
      clean_is = linted.clean;
    }

pub returns-clause-clean : goal.returns-clause-clean
returns-clause-clean c = λ is.
    let b = bundle_view c.args.bundle.now in
    let ids : texts c.as_slice.result.now ≡ called_in (names_of b) (standings c.args.places.now.list) = ap texts c.as_slice.ensures.value ∙ c.in_ok-called.ensures in
    subst (λ d. NoneFails d (entries_loaded (group_view c.args.group.now))) (c.in_ok-add_functions.ensures ∙ ap (λ l. with_functions l b) ids) (c.in_ok-linted.ensures.clean is)
