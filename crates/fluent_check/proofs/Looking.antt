-- What is found in groups, one after the other.
use Rattle.std.proofs.Common.{◌≡◌, ◌∙◌, ℕ, suc, ◌+◌, ◌<◌, ◌≤◌, ◌&&◌, Bool, true, false, List, [], ◌∷◌, ◌++◌, length, get_or, map, take, drop, Option, Some, None, Result, Ok, Err, IfOk, OnOk, refl, sym, ap, subst, arith, Vec, Global}
use Rattle.std.specs.List.{AllByRecursion}
use Rattle.std.proofs.lemmas.List.{append_assoc, append-nil, at_drop_more, length-map, length-take-le, map-append}
use Rattle.fluent_ast.specs.Tree.{Text}
use Rattle.fluent_semantics.specs.Bundle.{Bundle}
use Rattle.fluent_places.specs.Asked.{texts}
use Rattle.fluent_places.specs.Places.{Place, Names, names_of}
use Rattle.fluent_patterns.specs.Categories.{Categories}
use Rattle.fluent_patterns.specs.Found.{Found, found_in}
use Rattle.fluent_patterns.specs.Terms.{TellsAskedAt}
use Rattle.fluent_patterns.specs.Found as found
use Rattle.fluent_patterns.specs.declared.finding.Finding.{Finding}
use Rattle.fluent_check.specs.Differences.{reference_names}
use Rattle.fluent_sources.specs.Groups.{Group, groups_from, of_file}
use Rattle.fluent_check.specs.Inside.Looks.{AddsDifferences, AddsLinted, AddsLooks, AddsPatterns}
use Rattle.fluent_check.specs.Linted.{is_none}
use Rattle.fluent_sources.specs.Ids.{found_ids}
use Rattle.fluent_check.specs.Looks.{IsLook, Look, bundle_in, categories_if, found_in_look, found_in_looks, named_in, none_listed, places_in, standings_loaded}
use Rattle.fluent_check.specs.Patterns.{found_in_patterns, found_selects}
use Rattle.fluent_check.specs.Places.{place_of}
use Rattle.fluent_sources.specs.ReadFiles.{ReadFile}
use Rattle.fluent_sources.specs.Standing.{Standing}
use Rattle.fluent_check.specs.Whole.{found_whole, found_wholes, whole_if, whole_view, wholes}
use Rattle.fluent_check.specs.declared.whole.Whole.{Whole}
use Rattle.fluent_sources.specs.declared.groups.Grouping.{Grouping}
use Rattle.fluent_check.specs.declared.checking.Settings.{Settings}
use Rattle.fluent_check.proofs.Chained.{two}

-- ---- patterns

pub patterns_ok : {R : Type 0} (r : Result (Unit {0}) R) (named there : Names Text) (functions : List Text) (c : Categories) (ss : List Standing) (asks : Place → Text → Bool) (old mid new : Vec Finding Global)
    → AllByRecursion (TellsAskedAt named asks) (map place_of ss) → found_in mid ≡ found_in old ++ found_in_patterns (record { named = named; functions = functions; asks = asks }) ss
    → OnOk r (found_in new ≡ found_in mid ++ found_selects named there c ss) → OnOk r (AddsPatterns named there functions c ss old new)
patterns_ok (Err e) named there functions c ss asks old mid new right first second = second
patterns_ok (Ok u) named there functions c ss asks old mid new right first second = record {
  asks = asks;
  right = right;
  found_is = two (found_in old) (found_in mid) (found_in new) (found_in_patterns (record { named = named; functions = functions; asks = asks }) ss) (found_selects named there c ss) first second;
}

-- ---- whole places

pub same_wholes : (at at' : Place → Option Standing) → ((x : Place) → at x ≡ at' x) → (ws : List (Place × found.Problem)) → found_wholes at ws ≡ found_wholes at' ws
same_wholes at at' same [] = refl
same_wholes at at' same (w ∷ ws) = ap (λ o. whole_if o w.1 ++ found_wholes at ws) (same w.0) ∙ ap (λ l. found_whole at' w ++ l) (same_wholes at at' same ws)

pub wholes_more : (at : Place → Option Standing) (ws : List Whole) (i : ℕ) (d : Whole) (old new all : List Found) → i < length ws → new ≡ old ++ found_whole at (whole_view (get_or ws i d))
    → old ++ found_wholes at (wholes (drop i ws)) ≡ all → new ++ found_wholes at (wholes (drop (i + 1) ws)) ≡ all
wholes_more at ws i d old new all lt more so_far =
    let rest = found_wholes at (wholes (drop (i + 1) ws)) in
    ap (λ l. l ++ rest) more
    ∙ (append_assoc old (found_whole at (whole_view (get_or ws i d))) rest
    ∙ (sym (at_drop_more (λ l. old ++ found_wholes at (wholes l)) ws i d lt) ∙ so_far))

pub and_false : (b : Bool) → (b && false) ≡ false
and_false true = refl
and_false false = refl

-- ---- one group

pub and_true : (b : Bool) → b ≡ (b && true)
and_true true = refl
and_true false = refl

module _ (settings : Settings) (g : Group) (old f1 f2 f3 new : Vec Finding Global) where
  one_by : (clean : Bool) → found_in f1 ≡ found_in old ++ found_ids (standings_loaded g)
      → AddsPatterns (named_in settings g) (reference_names g) (texts settings.functions.now) (categories_if settings.language settings.has_all_categories) (places_in settings g) f1 f2
      → AddsDifferences g (named_in settings g) (places_in settings g) f2 f3
      → AddsLinted (bundle_in settings g) (named_in settings g) (places_in settings g) g f3 new clean
      → AddsLooks settings (g ∷ []) old new clean
  one_by clean ids patterns differences linted =
      let look : Look = record { group = g; asks = patterns.asks; differences = differences.differences; linted = linted.list } in
      record {
        looks = look ∷ [];
        groups = refl;
        right = (record { asks = patterns.right; differences = differences.right; linted = linted.right }, tt);
        found_is =
            two (found_in old) (found_in f1) (found_in new) _ _ ids
            (two (found_in f1) (found_in f2) (found_in new) _ _ patterns.found_is (two (found_in f2) (found_in f3) (found_in new) _ _ differences.found_is linted.found_is))
            ∙ ap (λ l. found_in old ++ l) (sym (append-nil (found_in_look settings look)));
        clean_is = linted.clean_is ∙ and_true (is_none linted.list);
      }

  one_ok : {R : Type 0} (r : Result Bool R) → found_in f1 ≡ found_in old ++ found_ids (standings_loaded g)
      → AddsPatterns (named_in settings g) (reference_names g) (texts settings.functions.now) (categories_if settings.language settings.has_all_categories) (places_in settings g) f1 f2
      → AddsDifferences g (named_in settings g) (places_in settings g) f2 f3
      → IfOk r (AddsLinted (bundle_in settings g) (named_in settings g) (places_in settings g) g f3 new)
      → IfOk r (AddsLooks settings (g ∷ []) old new)
  one_ok (Ok clean) ids patterns differences linted = one_by clean ids patterns differences linted
  one_ok (Err e) ids patterns differences linted = linted

  -- by what the code has of it
  pub one_look : {R : Type 0} (r : Result Bool R) (b : Bundle Text) (there : Names Text) (c : Categories) (all ss : List Standing) → b ≡ bundle_in settings g → there ≡ reference_names g → c ≡ categories_if settings.language settings.has_all_categories
      → all ≡ standings_loaded g → ss ≡ places_in settings g
      → found_in f1 ≡ found_in old ++ found_ids all
      → AddsPatterns (names_of b) there (texts settings.functions.now) c ss f1 f2
      → AddsDifferences g (names_of b) ss f2 f3
      → IfOk r (AddsLinted b (names_of b) ss g f3 new)
      → IfOk r (AddsLooks settings (g ∷ []) old new)
  one_look r b there c all ss b_is there_is c_is all_is ss_is ids patterns differences linted =
      one_ok r (ids ∙ ap (λ l. found_in old ++ found_ids l) all_is)
      (subst (λ l. AddsPatterns (named_in settings g) (reference_names g) (texts settings.functions.now) (categories_if settings.language settings.has_all_categories) l f1 f2) ss_is
      (subst (λ k. AddsPatterns (named_in settings g) (reference_names g) (texts settings.functions.now) k ss f1 f2) c_is
      (subst (λ n. AddsPatterns (named_in settings g) n (texts settings.functions.now) c ss f1 f2) there_is
      (subst (λ d. AddsPatterns (names_of d) there (texts settings.functions.now) c ss f1 f2) b_is patterns))))
      (subst (λ l. AddsDifferences g (named_in settings g) l f2 f3) ss_is (subst (λ d. AddsDifferences g (names_of d) ss f2 f3) b_is differences))
      (subst (λ l. IfOk r (AddsLinted (bundle_in settings g) (named_in settings g) l g f3 new)) ss_is (subst (λ d. IfOk r (AddsLinted d (names_of d) ss g f3 new)) b_is linted))

-- ---- more groups

found_both : (settings : Settings) (xs ys : List Look) → found_in_looks settings (xs ++ ys) ≡ found_in_looks settings xs ++ found_in_looks settings ys
found_both settings [] ys = refl
found_both settings (x ∷ xs) ys = ap (λ l. found_in_look settings x ++ l) (found_both settings xs ys) ∙ sym (append_assoc (found_in_look settings x) (found_in_looks settings xs) (found_in_looks settings ys))

and_assoc : (a b c : Bool) → (a && (b && c)) ≡ ((a && b) && c)
and_assoc true b c = refl
and_assoc false b c = refl

none_both : (xs ys : List Look) → none_listed (xs ++ ys) ≡ (none_listed xs && none_listed ys)
none_both [] ys = refl
none_both (x ∷ xs) ys = ap (λ b. is_none x.linted && b) (none_both xs ys) ∙ and_assoc (is_none x.linted) (none_listed xs) (none_listed ys)

right_both : (settings : Settings) (xs ys : List Look) → AllByRecursion (IsLook settings) xs → AllByRecursion (IsLook settings) ys → AllByRecursion (IsLook settings) (xs ++ ys)
right_both settings [] ys p q = q
right_both settings (x ∷ xs) ys p q = (p.0, right_both settings xs ys p.1 q)

pub looks_both : (settings : Settings) (gs hs : List Group) (a b c : Vec Finding Global) (x y : Bool) → AddsLooks settings gs a b x → AddsLooks settings hs b c y → AddsLooks settings (gs ++ hs) a c (x && y)
looks_both settings gs hs a b c x y first second = record {
  looks = first.looks ++ second.looks;
  groups = map-append (λ (look : Look). look.group) first.looks second.looks ∙ (ap (λ l. l ++ map (λ (look : Look). look.group) second.looks) first.groups ∙ ap (λ l. gs ++ l) second.groups);
  right = right_both settings first.looks second.looks first.right second.right;
  found_is =
      two (found_in a) (found_in b) (found_in c) (found_in_looks settings first.looks) (found_in_looks settings second.looks) first.found_is second.found_is
      ∙ ap (λ l. found_in a ++ l) (sym (found_both settings first.looks second.looks));
  clean_is = ap (λ z. z && y) first.clean_is ∙ (ap (λ z. none_listed first.looks && z) second.clean_is ∙ sym (none_both first.looks second.looks));
}

pub no_looks : (settings : Settings) (old : Vec Finding Global) → AddsLooks settings [] old old true
no_looks settings old = record { looks = []; groups = refl; right = tt; found_is = sym (append-nil (found_in old)); clean_is = refl }

-- ---- the group of one more file

groups_push : (grouping : Grouping) (g : Group) (k n : ℕ) (xs : List ReadFile) (x : ReadFile) → n ≡ k + length xs → groups_from grouping g k (xs ++ x ∷ []) ≡ groups_from grouping g k xs ++ of_file grouping g n x ∷ []
groups_push grouping g k n [] x e = ap (λ i. of_file grouping g i x ∷ []) (let same : k ≡ n = omega (arith, e) in same)
groups_push grouping g k n (y ∷ ys) x e = ap (λ l. of_file grouping g k y ∷ l) (groups_push grouping g (suc k) n ys x (omega (arith, e)))

pub groups_more : {A : Type 0} (f : A → ReadFile) (grouping : Grouping) (g : Group) (xs : List A) (i : ℕ) (x : A) → i < length xs → map f (take (i + 1) xs) ≡ map f (take i xs) ++ f x ∷ []
    → groups_from grouping g 0 (map f (take (i + 1) xs)) ≡ groups_from grouping g 0 (map f (take i xs)) ++ of_file grouping g i (f x) ∷ []
groups_more f grouping g xs i x lt more =
    ap (groups_from grouping g 0) more
    ∙ groups_push grouping g 0 i (map f (take i xs)) (f x) (omega (arith, length-map (take i xs) f, length-take-le i xs (omega (arith, lt))))
