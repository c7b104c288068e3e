-- Texts that are word for word those of the reference.
use Rattle.std.specs.Prelude.{Bool, true, false, Option, Some, None}
use Rattle.fluent_ast.specs.Tree.{Text, Pattern, is_yes, pattern_same}
use Rattle.fluent_places.specs.Places.{Place, Names, place_target}
use Rattle.fluent_places.specs.PlaceView.{pattern_in}
use Rattle.fluent_patterns.specs.Categories.{Categories, no_categories}

abbrev pub is_same : Option Pattern → Option Pattern → Bool
is_same None other = false
is_same (Some p) None = false
is_same (Some p) (Some q) = is_yes (pattern_same p q)

-- the same pattern stands at a place here, and there
abbrev pub is_copied : Names Text → Names Text → Place → Bool
is_copied here there x = is_same (pattern_in (place_target here x)) (pattern_in (place_target there x))

-- a text of another language is held against no categories
abbrev pub unless_copied : Bool → Categories → Categories
unless_copied true c = no_categories
unless_copied false c = c
