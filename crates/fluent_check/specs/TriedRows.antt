-- Worked rows: which arguments are tried, and what they show.
use Prim.Native.String.{String}
use Rattle.std.specs.Prelude.{◌≡◌, ℕ, Bool, true, false, codes, List, [], ◌∷◌, refl}
use Rattle.fluent_ast.specs.Tree as t
use Rattle.fluent_ast.specs.Tree.{Text, name_key, no_attribute, pattern_of}
use Rattle.fluent_intl.specs.Plurals.{english}
use Rattle.fluent_semantics.specs.Bundle.{Bundle, empty_bundle, after_all, add_resource, add_builtins, set_placeable_limit}
use Rattle.fluent_semantics.specs.Examples.{put, var, str, fun, case, case_number, default, choose, entry}
use Rattle.fluent_semantics.specs.Meaning.{ran}
use Rattle.fluent_semantics.specs.Value.{text_value, try_number}
use Rattle.fluent_semantics.specs.Walk.{elements}
use Rattle.fluent_places.specs.Places.{of_message}
use Rattle.fluent_patterns.specs.Choices.{choices}
use Rattle.fluent_check.specs.Tried.{is_shown, tried_arguments}

-- ---- choices

abbrev n_is : String → Text × t.Key
n_is key = (codes "n", name_key (codes key))

row_choices : choices (pattern_of (choose (var "n") (case "one" [] ∷ default "other" [] ∷ []) ∷ [])) ≡ n_is "one" ∷ n_is "other" ∷ []
row_choices = refl

-- a select, then those in its variants
row_inside : choices (pattern_of (
    choose (var "n") (case "one" (choose (var "m") (default "a" [] ∷ []) ∷ []) ∷ default "other" [] ∷ [])
    ∷ [])) ≡ n_is "one" ∷ n_is "other" ∷ (codes "m", name_key (codes "a")) ∷ []
row_inside = refl

-- on what is no variable
row_others : choices (pattern_of (choose (str "n") (default "other" [] ∷ []) ∷ choose (fun "NUMBER" (var "n" ∷ []) []) (default "other" [] ∷ []) ∷ [])) ≡ []
row_others = refl

-- ---- what is tried

row_tried : tried_arguments (pattern_of (choose (var "n") (case_number "5" [] ∷ default "other" [] ∷ []) ∷ []))
    ≡ [] ∷ ((codes "n", try_number (codes "5")) ∷ []) ∷ ((codes "n", text_value (codes "other")) ∷ []) ∷ []
row_tried = refl

-- ---- what is shown

-- a message of these elements, where no more than so many placeables are opened
abbrev limited : ℕ → List t.Element → Bundle Text
limited limit es =
    after_all (add_builtins ∷ add_resource (entry "a" es ∷ []) ∷ set_placeable_limit limit ∷ []) (empty_bundle english record { text = λ x. []; same = λ x y. true })

abbrev shows : ℕ → List t.Element → Bool
shows limit es = is_shown (limited limit es) (of_message (codes "a") no_attribute)

abbrev two : List t.Element
two = put (str "x") ∷ put (str "y") ∷ []

-- without arguments
row_texts : shows 1 two ≡ true
unfolding ran elements
row_texts = refl

row_default : shows 2 (choose (var "n") (case "one" [] ∷ default "other" two ∷ []) ∷ []) ≡ true
unfolding ran elements
row_default = refl

-- by a key
row_key : shows 2 (choose (var "n") (case "one" two ∷ default "other" [] ∷ []) ∷ []) ≡ true
unfolding ran elements
row_key = refl

row_number_key : shows 2 (choose (var "n") (case_number "1" two ∷ default "other" [] ∷ []) ∷ []) ≡ true
unfolding ran elements
row_number_key = refl

-- two selects on one variable, with placeables in opposite variants: six in all, and four in each run
row_opposite : shows 4 (choose (var "n") (case "one" two ∷ default "other" [] ∷ []) ∷ choose (var "n") (case "one" [] ∷ default "other" two ∷ []) ∷ []) ≡ false
unfolding ran elements
row_opposite = refl

row_opposite_less : shows 3 (choose (var "n") (case "one" two ∷ default "other" [] ∷ []) ∷ choose (var "n") (case "one" [] ∷ default "other" two ∷ []) ∷ []) ≡ true
unfolding ran elements
row_opposite_less = refl

-- two variables are not tried together
row_two_variables : shows 4 (choose (var "n") (case "one" two ∷ default "other" [] ∷ []) ∷ choose (var "m") (case "one" two ∷ default "other" [] ∷ []) ∷ []) ≡ false
unfolding ran elements
row_two_variables = refl

-- nothing stands there
row_nothing : is_shown (limited 1 two) (of_message (codes "b") no_attribute) ≡ false
row_nothing = refl
