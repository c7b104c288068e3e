-- What stands at a place of the code, and how two places are told apart.
use Rattle.std.specs.Borrow.{Bor}
use Rattle.std.specs.Option.{option_map}
use Rattle.std.specs.Prelude.{◌≡◌, ℕ, List, [], ◌++◌, Option, Some, None, IsTrue}
use Rattle.std.proofs.Common.{ap, sym}
use Rattle.std.specs.Hash as fed
use mathlib.Core.Bool.{true≢false}
use Rattle.fluent_ast.specs.Tree.{Attribute, no_attribute, attribute, Pattern, is_yes}
use Rattle.fluent_ast.specs.View.{pattern_view}
use Rattle.fluent_ast.specs.declared.ast.Pattern as tree
use Rattle.fluent_semantics.specs.Bundle.{Target, unknown, without_value, found}
use Rattle.fluent_places.specs.Places.{Place, of_message, of_term, place_same, place_view, Names, place_target}
use Rattle.fluent_places.specs.declared.place.Place as code

abbrev pub pattern_in : Target → Option Pattern
pattern_in unknown = None
pattern_in without_value = None
pattern_in (found p) = Some p

-- the pattern that stands at a place
abbrev pub pattern_at : {C : Type 0} → Names C → code.Place → Option Pattern
pattern_at named x = pattern_in (place_target named (place_view x))

-- a pattern, if there is one
abbrev pub pattern_seen : Option (Bor tree.Pattern) → Option Pattern
pattern_seen seen = option_map (λ p. pattern_view p.now) seen

-- ---- what of a place is hashed: its id, and the name of its attribute

abbrev pub hashed_attribute : Attribute → List (List ℕ)
hashed_attribute no_attribute = []
hashed_attribute (attribute a) = fed.str a

abbrev pub hashed : Place → List (List ℕ)
hashed (of_message m a) = fed.str m ++ hashed_attribute a
hashed (of_term t a) = fed.str t ++ hashed_attribute a

same_of : {P : Type 0} (d : Dec P) → IsTrue (is_yes d) → P
same_of (yes p) h = p
same_of (no n) h = absurd (true≢false (sym h))

pub respects : (a b : code.Place) → IsTrue (is_yes (place_same (place_view a) (place_view b))) → hashed (place_view a) ≡ hashed (place_view b)
respects a b h = ap hashed (same_of (place_same (place_view a) (place_view b)) h)
