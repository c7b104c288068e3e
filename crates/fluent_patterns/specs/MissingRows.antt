-- Worked rows of references to what isn't there.
use Rattle.std.specs.Prelude.{◌≡◌, [], ◌∷◌, None, codes}
use Rattle.fluent_ast.specs.Tree.{Text, Inline, Pattern, no_attribute, attribute, term, message_entry, no_call, pattern_of}
use Rattle.fluent_semantics.specs.Arguments.{get, set}
use Rattle.fluent_semantics.specs.Bundle.{added, number_builtin}
use Rattle.fluent_semantics.specs.Examples.{say, put, var, str, msg, msg_attribute, own, fun, case, choose, entry, private}
use Rattle.fluent_places.specs.Places.{Names}
use Rattle.fluent_places.specs.Needs.{a_message, a_term, a_function, a_variable}
use Rattle.fluent_patterns.specs.Found.{missing_message, missing_attribute, missing_value, missing_term, missing_term_attribute, missing_function, not_a_function, the_reference}
use Rattle.fluent_patterns.specs.Numbered.{references}
use Rattle.fluent_patterns.specs.Missing.{missing}

-- greeting = Hi
-- only =
--     .title = Hi
-- -brand = Fire
abbrev pub ids : Names Text
ids id = get id (set (codes "NUMBER") number_builtin (added (
    entry "greeting" (say "Hi" ∷ [])
    ∷ message_entry (codes "only") None ((codes "title", pattern_of (say "Hi" ∷ [])) ∷ [])
    ∷ private "brand" (say "Fire" ∷ [])
    ∷ []) []))

abbrev pub own_attribute : Text → Text → Inline
own_attribute id name = term id (attribute name) no_call

-- { greeting }{ nothing }{ greeting.x }{ only }{ only.title }
abbrev pub messages : Pattern
messages = pattern_of (put (msg "greeting") ∷ put (msg "nothing") ∷ put (msg_attribute "greeting" "x") ∷ put (msg "only") ∷ put (msg_attribute "only" "title") ∷ [])

-- { -brand }{ -nothing }{ -brand.x }{ -greeting.x }
abbrev pub terms : Pattern
terms = pattern_of (put (own "brand") ∷ put (own "nothing") ∷ put (own_attribute (codes "brand") (codes "x")) ∷ put (own_attribute (codes "greeting") (codes "x")) ∷ [])

-- { NUMBER($n) }{ F() }{ G($m) }{ greeting() }, where the application has F
abbrev pub functions : Pattern
functions = pattern_of (put (fun "NUMBER" (var "n" ∷ []) []) ∷ put (fun "F" [] []) ∷ put (fun "G" (var "m" ∷ []) []) ∷ put (fun "greeting" [] []) ∷ [])

-- a select without a default, whose variant refers to nothing
abbrev pub without_default : Pattern
without_default = pattern_of (choose (var "n") (case "one" (put (var "a") ∷ []) ∷ []) ∷ put (msg "nothing") ∷ [])

pub record Rows : Type 0 where
  pub in_order : references functions ≡ a_function (codes "NUMBER") ∷ a_variable (codes "n") ∷ a_function (codes "F") ∷ a_function (codes "G") ∷ a_variable (codes "m") ∷ a_function (codes "greeting") ∷ []
  pub no_default : references without_default ≡ a_variable (codes "n") ∷ a_variable (codes "a") ∷ a_message (codes "nothing") no_attribute ∷ []
  pub of_messages : missing ids [] messages ≡ (the_reference 1, missing_message (codes "nothing")) ∷ (the_reference 2, missing_attribute (codes "greeting") (codes "x")) ∷ (the_reference 3, missing_value (codes "only")) ∷ []
  pub of_terms : missing ids [] terms ≡ (the_reference 1, missing_term (codes "nothing")) ∷ (the_reference 2, missing_term_attribute (codes "brand") (codes "x")) ∷ (the_reference 3, missing_term (codes "greeting")) ∷ []
  pub of_functions : missing ids (codes "F" ∷ []) functions ≡ (the_reference 3, missing_function (codes "G")) ∷ (the_reference 5, not_a_function (codes "greeting")) ∷ []
  pub after_a_select : missing ids [] without_default ≡ (the_reference 2, missing_message (codes "nothing")) ∷ []
