-- What is kept of terms stays what they show, and what it says of references.
use Rattle.std.proofs.Common.{◌≡◌, ◌∙◌, cond, List, [], ◌∷◌, ◌++◌, map, not, true, Bool, Option, Some, None, refl, sym, ap, subst}
use Rattle.std.specs.Borrow.{Bor}
use Rattle.std.specs.List.{filter}
use Rattle.std.specs.Map.{lookup}
use Rattle.std.specs.Option.{option_map}
use Rattle.std.proofs.lemmas.List.{append-nil}
use Rattle.indexmap.specs.IndexSet.{IndexSet}
use Rattle.fluent_ast.specs.Tree.{Text, Pattern, is_yes}
use Rattle.fluent_semantics.specs.Bundle.{Target, unknown, without_value, found}
use Rattle.fluent_places.specs.Asked.{list_of, texts}
use Rattle.fluent_places.specs.Places.{Place, place_same, place_view, Names, place_target}
use Rattle.fluent_places.specs.PlaceView.{pattern_in}
use Rattle.fluent_places.specs.declared.asked.Asked.{Asked}
use Rattle.fluent_places.specs.declared.place.Place as code
use Rattle.fluent_patterns.specs.Found.{Problem, unused_argument}
use Rattle.fluent_patterns.specs.Names.{is_one_of, once}
use Rattle.fluent_patterns.specs.Shown.{shown}
use Rattle.fluent_patterns.specs.declared.shown.Wanted.TheVariants.{Variables}
use Rattle.fluent_patterns.specs.Terms.{against, asks_by, at_target, is_asked, not_givens, unuseds, AreShown, AreShownAt}

found_by : (t : Target) (p : Pattern) → Some p ≡ pattern_in t → t ≡ found p
found_by unknown p h = absurd cc
found_by without_value p h = absurd cc
found_by (found q) p h = let same : q ≡ p = cc in ap found same

-- ---- one more

pub shown_by : (named : Names Text) (x : Place) (p : Pattern) (names : List Text) → Some p ≡ pattern_in (place_target named x) → names ≡ once (shown Variables p) → AreShownAt named x names
shown_by named x p names there is = (p, found_by (place_target named x) p there, is)

kept_head : {S : Type 0} (named : Names Text) (x y : Place) (d : Dec (x ≡ y)) (set : IndexSet (Bor Text) S) (old : Option (IndexSet (Bor Text) S)) (names : List Text) → AreShownAt named x (texts set.keys)
    → (option_map (λ s. texts s.keys) old ≡ Some names → AreShownAt named y names) → option_map (λ s. texts s.keys) (cond (is_yes d) (Some set) old) ≡ Some names → AreShownAt named y names
kept_head named x y (yes p) set old names here there e =
    let same : texts set.keys ≡ names = cc in
    subst (λ ns. AreShownAt named y ns) same (subst (λ z. AreShownAt named z (texts set.keys)) p here)
kept_head named x y (no other) set old names here there e = there e

pub kept_after : {S : Type 0} (named : Names Text) (x : code.Place) (set : IndexSet (Bor Text) S) (old new : List (code.Place × IndexSet (Bor Text) S))
    → ((q : code.Place) → lookup (λ k. is_yes (place_same (place_view q) (place_view k))) new ≡ cond (is_yes (place_same (place_view x) (place_view q))) (Some set) (lookup (λ k. is_yes (place_same (place_view q) (place_view k))) old))
    → AreShown named old → AreShownAt named (place_view x) (texts set.keys) → AreShown named new
kept_after named x set old new sets were here q names e =
    kept_head named (place_view x) (place_view q) (place_same (place_view x) (place_view q)) set (lookup (λ k. is_yes (place_same (place_view q) (place_view k))) old) names here (were q names)
    (sym (ap (option_map (λ s. texts s.keys)) (sets q)) ∙ e)

-- ---- problems of a reference

pub none_at : (t : Target) (x : Place) (given : List Text) (asks : Text → Bool) → None ≡ pattern_in t → [] ≡ at_target t x given asks
none_at unknown x given asks h = refl
none_at without_value x given asks h = refl
none_at (found p) x given asks h = absurd cc

pub some_at : (t : Target) (x : Place) (given names : List Text) (asks : Text → Bool) (p : Pattern) → t ≡ found p → names ≡ once (shown Variables p) → against x given names asks ≡ at_target t x given asks
some_at t x given names asks p there is = ap (λ ns. against x given ns asks) is ∙ sym (ap (λ u. at_target u x given asks) there)

pub found_at : (t : Target) (x : Place) (given names : List Text) (asks : Text → Bool) (p : Pattern) → Some p ≡ pattern_in t → names ≡ once (shown Variables p) → against x given names asks ≡ at_target t x given asks
found_at t x given names asks p there is = some_at t x given names asks p (found_by t p there) is

none_left_over : (given : List Text) → filter (λ v. not true) given ≡ []
none_left_over [] = refl
none_left_over (v ∷ given) = none_left_over given

pub none_unused : (o : Option (List (Bor Text))) (x : Place) (given : List Text) → None ≡ o → unuseds x given (is_asked o) ≡ []
none_unused None x given h = ap (map (λ (v : Text). unused_argument v x)) (none_left_over given)
none_unused (Some l) x given h = absurd cc

pub nothing_unused : (x : Place) (given shows : List Text) (asked : Asked) → None ≡ list_of asked x → not_givens x given shows ≡ against x given shows (asks_by asked x)
nothing_unused x given shows asked h = sym (append-nil (not_givens x given shows)) ∙ ap (λ w. not_givens x given shows ++ w) (sym (none_unused (list_of asked x) x given h))

pub some_unused : (x : Place) (given shows : List Text) (asked : Asked) (l : List (Bor Text)) → Some l ≡ list_of asked x → not_givens x given shows ++ unuseds x given (is_one_of (texts l)) ≡ against x given shows (asks_by asked x)
some_unused x given shows asked l h = ap (λ o. not_givens x given shows ++ unuseds x given (is_asked o)) h
