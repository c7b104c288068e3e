-- Worked rows of what is found in groups of files: ids, names of attributes, places, groups, and what is told of files beside others.
use Rattle.std.specs.Prelude.{◌≡◌, ℕ, List, [], ◌∷◌, map, Some, None, codes, bytes_eq, if◌then◌else◌}
use Prim.Native.String.{String}
use Rattle.fluent_ast.specs.Tree.{Text, no_attribute, attribute, Pattern}
use Rattle.fluent_semantics.specs.Bundle.{a_message}
use Rattle.fluent_places.specs.Places.{Place, of_message, of_term, Names}
use Rattle.fluent_patterns.specs.Found.{Problem, whole, taken_id, function_id, repeated_attribute}
use Rattle.fluent_check.specs.Differences.{Edition, all_here}
use Rattle.fluent_sources.specs.Groups.{Group, groups_of}
use Rattle.fluent_check.specs.Places.{first_at, places_of}
use Rattle.fluent_sources.specs.ReadFiles.{ReadFile}
use Rattle.fluent_sources.specs.Repeated.{function_ids, repeated_attributes}
use Rattle.fluent_sources.specs.Standing.{Standing, found_at}
use Rattle.fluent_sources.specs.Taken.{taken}
use Rattle.fluent_check.specs.Whole.{found_wholes}
use Rattle.fluent_sources.specs.declared.groups.Grouping.TheVariants.{Together, Each, Pairs}

-- what stands in the file of a number, at a byte
abbrev standing : Place → ℕ → ℕ → Standing
standing x file at = (file, record { place = x; at = at; offsets = record { references = []; selects = []; variants = [] } })

abbrev value : String → Place
value id = of_message (codes id) no_attribute

abbrev title : String → Place
title id = of_message (codes id) (attribute (codes "title"))

abbrev term : String → Place
term id = of_term (codes id) no_attribute

-- one message of this id
abbrev only : String → Pattern → Names Text
only id p name = if bytes_eq name (codes id) then Some (a_message (Some p) []) else None

pub record Rows : Type 0 where
  pub taken_again : taken [] (standing (value "a") 0 5 ∷ standing (value "b") 1 0 ∷ standing (value "a") 1 7 ∷ [])
      ≡ found_at (standing (value "a") 1 7) whole (taken_id (record { file = 0; at = 5 })) ∷ []
  pub taken_by_a_message : taken [] (standing (value "a") 0 5 ∷ standing (term "a") 0 7 ∷ []) ≡ found_at (standing (term "a") 0 7) whole (taken_id (record { file = 0; at = 5 })) ∷ []
  pub taken_by_the_first : taken [] (standing (value "a") 0 5 ∷ standing (value "a") 0 6 ∷ standing (value "a") 0 7 ∷ [])
      ≡ found_at (standing (value "a") 0 6) whole (taken_id (record { file = 0; at = 5 })) ∷ found_at (standing (value "a") 0 7) whole (taken_id (record { file = 0; at = 5 })) ∷ []
  pub of_a_function : function_ids (standing (value "NUMBER") 0 5 ∷ standing (title "NUMBER") 0 7 ∷ []) ≡ found_at (standing (value "NUMBER") 0 5) whole function_id ∷ []
  pub repeated : repeated_attributes [] (standing (value "a") 0 0 ∷ standing (title "a") 0 3 ∷ standing (title "a") 0 6 ∷ standing (value "b") 0 9 ∷ standing (title "b") 0 12 ∷ [])
      ≡ found_at (standing (title "a") 0 6) whole repeated_attribute ∷ []
  pub firsts : (p : Pattern) → places_of (only "a" p) (standing (value "b") 0 0 ∷ standing (value "a") 0 5 ∷ standing (title "a") 0 6 ∷ standing (value "a") 1 7 ∷ []) ≡ standing (value "a") 0 5 ∷ []
  pub first : first_at (value "a") (standing (value "b") 0 0 ∷ standing (value "a") 0 5 ∷ standing (value "a") 1 7 ∷ []) ≡ Some (standing (value "a") 0 5)
  pub wholes : (problem : Problem) → found_wholes (λ x. first_at x (standing (value "a") 0 5 ∷ [])) ((value "b", problem) ∷ (value "a", problem) ∷ []) ≡ found_at (standing (value "a") 0 5) whole problem ∷ []
  -- groups
  pub together : (g : Group) → groups_of Together g ≡ g ∷ []
  pub each : (b f h r : ReadFile) → groups_of Each (record { beside = b ∷ []; own = f ∷ h ∷ []; references = r ∷ [] })
      ≡ record { beside = b ∷ []; own = f ∷ []; references = [] } ∷ record { beside = b ∷ []; own = h ∷ []; references = [] } ∷ []
  pub pairs : (b f h r : ReadFile) → groups_of Pairs (record { beside = b ∷ []; own = f ∷ h ∷ []; references = r ∷ [] })
      ≡ record { beside = b ∷ []; own = f ∷ []; references = r ∷ [] } ∷ record { beside = b ∷ []; own = h ∷ []; references = [] } ∷ []
  -- what stands beside a translation isn't compared
  pub beside : (reference translation : Edition) → all_here 1 reference translation (standing (value "a") 0 5 ∷ []) ≡ []
