-- A translation and its reference, by the groups that they are made of.
use Rattle.std.proofs.Common.{◌≡◌, ◌∙◌, ℕ, List, [], ◌∷◌, ◌++◌, length, map, Option, Some, None, Result, Ok, Err, OnOk, refl, sym, ap, subst, Vec, Global}
use Rattle.std.specs.List.{AllByRecursion, slice_get}
use Rattle.std.specs.Option.{option_map}
use Rattle.fluent_ast.specs.Tree.{Text}
use Rattle.fluent_bundle.specs.declared.bundle.FluentBundle.{FluentBundle}
use Rattle.fluent_places.specs.Asked.{AreAskedIn, IsAskedIn, list_of, texts}
use Rattle.fluent_places.specs.Places.{Place, Names, names_of}
use Rattle.fluent_places.specs.declared.asked.Asked.{Asked}
use Rattle.fluent_plural_rules.specs.declared.rule_texts.RuleTexts.{RuleTexts}
use Rattle.fluent_values.specs.declared.formatter.NoFormatter.{NoFormatter}
use Rattle.fluent_values.specs.declared.function.NoFunction.{NoFunction}
use Rattle.fluent_values.specs.declared.transform.NoTransform.{NoTransform}
use Rattle.fluent_values.specs.declared.types.custom.NoCustom.{NoCustom}
use Rattle.fluent_patterns.specs.Found.{Found, found_in}
use Rattle.fluent_patterns.specs.declared.finding.Finding.{Finding}
use Rattle.fluent_check.specs.Bundles.{bundle_view}
use Rattle.fluent_check.specs.Differences.{AreAllDifferences, AreAskedBy, AreDifferencesBy, Edition, IsAskedBy, all_differences, edition_of, edition_view, reference_names, reference_places}
use Rattle.fluent_sources.specs.Groups.{Group}
use Rattle.fluent_check.specs.Inside.Editions.{IsEdition}
use Rattle.fluent_check.specs.Inside.Looks.{AddsAllDifferences, AddsDifferences}
use Rattle.fluent_check.specs.Places.{keys_of, place_of}
use Rattle.fluent_sources.specs.ReadFiles.{ReadFile, file_view}
use Rattle.fluent_sources.specs.Standing.{Standing, standings}
use Rattle.fluent_sources.specs.declared.files.Read.{Read}
use Rattle.fluent_check.specs.declared.places.Places.{Places}
use Rattle.fluent_check.specs.declared.referred.Edition as code

-- ---- what places ask for

abbrev pub asked_of : Asked → Place → Option (List Text)
asked_of a x = option_map texts (list_of a x)

asked_by : (named : Names Text) (a : Asked) (xs : List Place) → AllByRecursion (IsAskedIn named a) xs → AllByRecursion (IsAskedBy named (asked_of a)) xs
asked_by named a [] all = tt
asked_by named a (x ∷ xs) all = ((texts all.0.0, ap (option_map texts) all.0.1, all.0.2), asked_by named a xs all.1)

-- ---- an edition

module _ (e : code.Edition) (bundle : FluentBundle RuleTexts NoCustom NoFunction NoFormatter NoTransform) (places : Places) (named : Names Text) (ss : List Standing) (is : IsEdition bundle places e)
    (named_is : names_of (bundle_view bundle) ≡ named) (ss_are : standings places.list ≡ ss) (keys_are : keys_of places ≡ map place_of (standings places.list)) where
  pub edition_is : edition_view e ≡ edition_of named ss (asked_of e.asked)
  edition_is =
      ap (λ b. record { named = names_of (bundle_view b); standings = standings e.places.now.list; places = keys_of e.places.now; asked = asked_of e.asked }) is.of_bundle
      ∙ (ap (λ p. record { named = names_of (bundle_view bundle); standings = standings p.list; places = keys_of p; asked = asked_of e.asked }) is.of_places
      ∙ (ap (λ ks. record { named = names_of (bundle_view bundle); standings = standings places.list; places = ks; asked = asked_of e.asked }) keys_are
      ∙ (ap (λ n. record { named = n; standings = standings places.list; places = map place_of (standings places.list); asked = asked_of e.asked }) named_is
      ∙ ap (λ l. record { named = named; standings = l; places = map place_of l; asked = asked_of e.asked }) ss_are)))

  pub edition_asks : AreAskedBy named ss (asked_of e.asked)
  edition_asks =
      subst (λ l. AreAskedBy named l (asked_of e.asked)) ss_are
      (subst (λ n. AllByRecursion (IsAskedBy n (asked_of e.asked)) (map place_of (standings places.list))) named_is
      (subst (λ ks. AllByRecursion (IsAskedBy (names_of (bundle_view bundle)) (asked_of e.asked)) ks) keys_are (asked_by (names_of (bundle_view bundle)) e.asked (keys_of places) is.asked)))

-- ---- the differences of a group

pub all_ok : {R : Type 0} (r : Result (Unit {0}) R) (g : Group) (named : Names Text) (ss : List Standing) (old new : Vec Finding Global) (first : ℕ) (reference translation : Edition) (there here : Place → Option (List Text))
    → reference ≡ edition_of (reference_names g) (reference_places g) there → translation ≡ edition_of named ss here → first ≡ length g.beside
    → AreAskedBy (reference_names g) (reference_places g) there → AreAskedBy named ss here
    → OnOk r (found_in new ≡ found_in old ++ all_differences first reference translation) → OnOk r (AddsAllDifferences g named ss old new)
all_ok (Err e) g named ss old new first reference translation there here r_is t_is first_is asks_there asks_here found = found
all_ok (Ok u) g named ss old new first reference translation there here r_is t_is first_is asks_there asks_here found = record {
  differences = all_differences (length g.beside) (edition_of (reference_names g) (reference_places g) there) (edition_of named ss here);
  right = record { here = here; there = there; asked_here = asks_here; asked_there = asks_there; found_is = refl };
  found_is =
      found
      ∙ (ap (λ n. found_in old ++ all_differences n reference translation) first_is
      ∙ (ap (λ e. found_in old ++ all_differences (length g.beside) e translation) r_is
      ∙ ap (λ e. found_in old ++ all_differences (length g.beside) (edition_of (reference_names g) (reference_places g) there) e) t_is));
}

-- where there are references, and where there are none

pub none_differ : (refs : List Read) (g : Group) (named : Names Text) (ss : List Standing) → None ≡ slice_get refs 0 → AreDifferencesBy (map file_view refs) g named ss []
none_differ [] g named ss none = refl
none_differ (r ∷ rs) g named ss none = absurd cc

some_differ : (refs : List Read) (x : Read) (g : Group) (named : Names Text) (ss : List Standing) (found : List Found) → Some x ≡ slice_get refs 0 → AreAllDifferences g named ss found → AreDifferencesBy (map file_view refs) g named ss found
some_differ [] x g named ss found some all = absurd cc
some_differ (r ∷ rs) x g named ss found some all = all

pub some_ok : {R : Type 0} (r : Result (Unit {0}) R) (refs : List Read) (x : Read) (g : Group) (named : Names Text) (ss : List Standing) (old new : Vec Finding Global) → Some x ≡ slice_get refs 0 → map file_view refs ≡ g.references
    → OnOk r (AddsAllDifferences g named ss old new) → OnOk r (AddsDifferences g named ss old new)
some_ok (Err e) refs x g named ss old new some is adds = adds
some_ok (Ok u) refs x g named ss old new some is adds = record {
  differences = adds.differences;
  right = subst (λ l. AreDifferencesBy l g named ss adds.differences) is (some_differ refs x g named ss adds.differences some adds.right);
  found_is = adds.found_is;
}
