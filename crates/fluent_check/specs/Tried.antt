-- What is tried, to show that a value or an attribute opens more placeables than the limit.
use Rattle.std.specs.Prelude.{◌≡◌, List, [], ◌∷◌, map, take, Bool, true, false, Option, Some, None}
use Rattle.std.specs.List.{list_any}
use Rattle.fluent_ast.specs.Tree.{Text, Pattern}
use Rattle.fluent_semantics.specs.Arguments.{Map}
use Rattle.fluent_semantics.specs.Bundle.{Bundle, found, key_value}
use Rattle.fluent_semantics.specs.Errors.{Error, overriding, parser_error, resolver_error, lost, no_value, missing_default, cyclic, too_many_placeables}
use Rattle.fluent_semantics.specs.Result.{written_pattern}
use Rattle.fluent_semantics.specs.Value.{Value}
use Rattle.fluent_places.specs.Places.{Place, names_of, place_target}
use Rattle.fluent_places.specs.PlaceView.{pattern_in}
use Rattle.fluent_patterns.specs.Choices.{Choice, choices}

-- ---- the arguments that are tried

-- the variable alone, with the value of the key
abbrev pub given : Choice → Map (Value Text)
given choice = (choice.0, key_value choice.1) ∷ []

-- none, and then the first 32 choices
abbrev pub tried_arguments : Pattern → List (Map (Value Text))
tried_arguments p = [] ∷ map given (take 32 (choices p))

-- ---- what they show

abbrev pub is_too_many : Error → Bool
is_too_many (resolver_error too_many_placeables) = true
is_too_many (resolver_error (lost r)) = false
is_too_many (resolver_error (no_value id)) = false
is_too_many (resolver_error missing_default) = false
is_too_many (resolver_error cyclic) = false
is_too_many (overriding kind id) = false
is_too_many (parser_error start end) = false

-- with these arguments a pattern opens more placeables than the limit
abbrev pub reaches_limit : Bundle Text → Pattern → Map (Value Text) → Bool
reaches_limit bundle p args = list_any is_too_many (written_pattern bundle args p).errors

-- so it does with some of those that are tried
abbrev pub is_shown_of : Bundle Text → Option Pattern → Bool
is_shown_of bundle None = false
is_shown_of bundle (Some p) = list_any (reaches_limit bundle p) (tried_arguments p)

-- what stands at a place does
abbrev pub is_shown : Bundle Text → Place → Bool
is_shown bundle x = is_shown_of bundle (pattern_in (place_target (names_of bundle) x))

-- There are arguments with which what stands at a place opens more placeables than the limit.
pub record ReachesLimit (bundle : Bundle Text) (x : Place) : Type 0 where
  pub pattern : Pattern
  pub args : Map (Value Text)
  pub stands : place_target (names_of bundle) x ≡ found pattern
  pub reaches : reaches_limit bundle pattern args ≡ true
