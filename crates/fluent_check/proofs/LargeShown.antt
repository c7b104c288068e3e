-- Errors of too many placeables have arguments that show them.
use mathlib.Core.Bool.{true≢false}
use Rattle.std.proofs.Common.{◌≡◌, ◌||◌, ℕ, Bool, true, false, List, [], ◌∷◌, Option, Some, None, IfSome, refl, sym}
use Rattle.std.specs.List.{AllByRecursion, cons_option, filter_map, list_any}
use Rattle.std.specs.Option.{option_map}
use Rattle.fluent_ast.specs.Tree.{Text}
use Rattle.fluent_semantics.specs.Bundle.{Bundle, Target, unknown, without_value, found}
use Rattle.fluent_places.specs.Places.{Place, names_of, place_target, place_view}
use Rattle.fluent_places.specs.PlaceView.{pattern_in}
use Rattle.fluent_clean.specs.declared.finding.Finding.{Finding}
use Rattle.fluent_clean.specs.declared.finding.Kind.{Kind}
use Rattle.fluent_clean.specs.declared.finding.Kind.TheVariants as kind
use Rattle.fluent_patterns.specs.Found.{Problem}
use Rattle.fluent_check.specs.Linted.{IsShownIfLarge, LargeErrorsAreShown}
use Rattle.fluent_check.specs.Tried.{ReachesLimit, is_shown, is_shown_of, reaches_limit, tried_arguments}
use Rattle.fluent_check.specs.Whole.{all_lead_on, if_alone, large_problem, whole_of, whole_problem}

-- ---- one that passes a test

first_of : {A : Type 0} (test : A → Bool) (x : A) (xs : List A) (b : Bool) → test x ≡ b → (list_any test xs ≡ true → (y : A) × (test y ≡ true)) → (b || list_any test xs) ≡ true → (y : A) × (test y ≡ true)
first_of test x xs true e rest h = (x, e)
first_of test x xs false e rest h = rest h

one_of : {A : Type 0} (test : A → Bool) (xs : List A) → list_any test xs ≡ true → (y : A) × (test y ≡ true)
one_of test [] h = absurd (true≢false (sym h))
one_of test (x ∷ xs) h = first_of test x xs (test x) refl (one_of test xs) h

-- ---- of one finding

reached_at : (b : Bundle Text) (x : Place) (t : Target) → place_target (names_of b) x ≡ t → is_shown_of b (pattern_in t) ≡ true → ReachesLimit b x
reached_at b x unknown e h = absurd (true≢false (sym h))
reached_at b x without_value e h = absurd (true≢false (sym h))
reached_at b x (found p) e h =
    let one = one_of (reaches_limit b p) (tried_arguments p) h in
    record { pattern = p; args = one.0; stands = e; reaches = one.1 }

large_shown : (b : Bundle Text) (x : Place) (count limit : ℕ) (shown : Bool) → is_shown b x ≡ shown → IsShownIfLarge b x (large_problem shown count limit)
large_shown b x count limit true e = reached_at b x (place_target (names_of b) x) refl e
large_shown b x count limit false e = tt

alone_shown : (b : Bundle Text) (x y : Place) (alone : Bool) → IfSome (if_alone alone y) (IsShownIfLarge b x)
alone_shown b x y true = tt
alone_shown b x y false = tt

problem_shown : (b : Bundle Text) (alone : Bool) (x : Place) (k : Kind) → IfSome (whole_problem (is_shown b) alone x k) (IsShownIfLarge b x)
problem_shown b alone x (kind.Cycle ys) = tt
problem_shown b alone x (kind.TooManyPlaceables count limit) = large_shown b x count limit (is_shown b x) refl
problem_shown b alone x (kind.LeadsTo y) = alone_shown b x (place_view y) alone
problem_shown b alone x (kind.Elsewhere y) = alone_shown b x (place_view y) alone
problem_shown b alone x (kind.UnknownMessage id) = tt
problem_shown b alone x (kind.UnknownAttribute id a) = tt
problem_shown b alone x (kind.NoValue id) = tt
problem_shown b alone x (kind.UnknownTerm id) = tt
problem_shown b alone x (kind.UnknownTermAttribute id a) = tt
problem_shown b alone x (kind.UnknownFunction id) = tt
problem_shown b alone x kind.NoDefault = tt

-- ---- of all

placed : (b : Bundle Text) (x : Place) (told : Option Problem) → IfSome told (IsShownIfLarge b x) → IfSome {T = Place × Problem} (option_map (λ p. (x, p)) told) (λ w. IsShownIfLarge b w.0 w.1)
placed b x None h = tt
placed b x (Some p) h = h

joined : {A : Type 0} (P : A → Type 0) (first : Option A) (rest : List A) → IfSome first P → AllByRecursion P rest → AllByRecursion P (cons_option first rest)
joined P None rest h all = all
joined P (Some x) rest h all = (h, all)

each_shown : (b : Bundle Text) (alone : Bool) (fs : List Finding) → AllByRecursion (λ w. IsShownIfLarge b w.0 w.1) (filter_map (whole_of (is_shown b) alone) fs)
each_shown b alone [] = tt
each_shown b alone (f ∷ fs) =
    let x = place_view f.place in
    joined (λ w. IsShownIfLarge b w.0 w.1) (whole_of (is_shown b) alone f) (filter_map (whole_of (is_shown b) alone) fs)
    (placed b x (whole_problem (is_shown b) alone x f.kind) (problem_shown b alone x f.kind)) (each_shown b alone fs)

pub all_shown : LargeErrorsAreShown
all_shown b fs = each_shown b (all_lead_on fs) fs
