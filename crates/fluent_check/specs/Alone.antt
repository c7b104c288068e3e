-- What stands in a translation or in its reference alone: a value or an attribute of a message.
use Rattle.std.specs.Prelude.{◌&&◌, ◌||◌, not, Bool, true, false, List, [], ◌∷◌, if◌then◌else◌}
use Rattle.fluent_ast.specs.Tree.{Text, no_attribute, attribute}
use Rattle.fluent_semantics.specs.Bundle.{is_message}
use Rattle.fluent_places.specs.Places.{Place, of_message, of_term, views, Names, names_of}
use Rattle.fluent_patterns.specs.Found.{Problem, not_translated, value_not_translated, not_in_reference, value_not_in_reference, Flaw, whole}
use Rattle.fluent_differences.specs.Among.{is_at}
use Rattle.fluent_check.specs.Bundles.{bundle_view}
use Rattle.fluent_check.specs.declared.alone.Side as code

-- one of the two: what ids name in it, and where its patterns stand
pub record Side : Type 0 where
  pub named : Names Text
  pub places : List Place

abbrev pub side_view : code.Side → Side
side_view s = record { named = names_of (bundle_view s.bundle.now); places = views s.places.now.keys }

-- a message is there
abbrev pub has_message : Side → Text → Bool
has_message side m = is_message (side.named m)

-- Of a message that is missing one is told: its value, or each attribute where it has no value. Of one that is there, each that is missing. Terms are a side's own.
abbrev pub is_told : Side → Side → Place → Bool
is_told here there (of_message m no_attribute) = true
is_told here there (of_message m (attribute a)) = has_message there m || not (is_at (of_message m no_attribute) here.places)
is_told here there (of_term t a) = false

-- what stands at a place of one side is missing on the other, and that is told
abbrev pub is_alone : Side → Side → Place → Bool
is_alone here there x = not (is_at x there.places) && is_told here there x

-- the value of a message that is there
abbrev pub is_of_message : Side → Place → Bool
is_of_message side (of_message m no_attribute) = has_message side m
is_of_message side (of_message m (attribute a)) = false
is_of_message side (of_term t a) = false

abbrev pub whole_if : Bool → Problem → List Flaw
whole_if b problem = if b then (whole, problem) ∷ [] else []

-- ---- what is told at a place

-- of the reference
abbrev pub untranslated : Side → Side → Place → List Flaw
untranslated reference translation x =
    whole_if (is_alone reference translation x) (if is_of_message translation x then value_not_translated else not_translated)

-- of the translation
abbrev pub unreferenced : Side → Side → Place → List Flaw
unreferenced reference translation x =
    whole_if (is_alone translation reference x) (if is_of_message reference x then value_not_in_reference else not_in_reference)
