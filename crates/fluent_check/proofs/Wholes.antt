-- Problems of whole places that are told, one after the other.
use Rattle.std.proofs.Common.{◌≡◌, ◌∙◌, ◌++◌, List, [], ◌∷◌, Option, Some, None, ap, map, refl, sym}
use Rattle.std.proofs.lemmas.List.{append-nil, map-append}
use Rattle.std.specs.List.{cons_option, filter_map}
use Rattle.std.specs.Option.{option_map}
use Rattle.fluent_places.specs.Places.{Place, place_view}
use Rattle.fluent_patterns.specs.Found.{Problem, problem_view}
use Rattle.fluent_check.specs.Whole.{whole_view, wholes}
use Rattle.fluent_check.specs.declared.whole.Whole.{Whole}

joined : {B : Type 0} (o : Option B) (rest : List B) → cons_option o rest ≡ cons_option o [] ++ rest
joined None rest = refl
joined (Some x) rest = refl

-- what is told of one finding, and then of those after it
pub each : {A B : Type 0} (says : A → Option B) (x : A) (xs : List A) → filter_map says (x ∷ xs) ≡ cons_option (says x) [] ++ filter_map says xs
each says x xs = joined (says x) (filter_map says xs)

-- nothing was told
pub unless : (x : Place) (told : Option Problem) (old : List Whole) → None ≡ told → wholes old ≡ wholes old ++ cons_option (option_map (λ problem. (x, problem)) told) []
unless x told old none = sym (append-nil (wholes old)) ∙ ap (λ o. wholes old ++ cons_option (option_map (λ problem. (x, problem)) o) []) none

-- one was
pub added : (x : Place) (told : Option Problem) (old new : List Whole) (w : Whole) → new ≡ old ++ w ∷ [] → place_view w.place ≡ x → Some (problem_view w.problem) ≡ told → wholes new ≡ wholes old ++ cons_option (option_map (λ problem. (x, problem)) told) []
added x told old new w more at some =
    ap wholes more
    ∙ (map-append whole_view old (w ∷ [])
    ∙ (ap (λ y. wholes old ++ (y, problem_view w.problem) ∷ []) at
    ∙ ap (λ o. wholes old ++ cons_option (option_map (λ problem. (x, problem)) o) []) some))
