-- Worked rows: what a translation lacks, or has beside its reference.
use Rattle.std.specs.Prelude.{◌≡◌, Bool, true, false, List, [], ◌∷◌, Option, Some, None, filter, map, codes, refl}
use Prim.Native.String.{String}
use Rattle.fluent_ast.specs.Tree as t
use Rattle.fluent_ast.specs.Tree.{Text, Attribute, no_attribute, attribute, Element, Pattern, pattern_of, term, message_entry}
use Rattle.fluent_semantics.specs.Arguments.{get}
use Rattle.fluent_semantics.specs.Bundle.{Target, unknown, without_value, found, added}
use Rattle.fluent_semantics.specs.Examples.{say, put, var, msg, own, fun, case, default, choose, entry, private}
use Rattle.fluent_places.specs.Places.{Place, of_message, of_term, Names, place_target, places_in}
use Rattle.fluent_patterns.specs.Found.{not_translated, value_not_translated, not_in_reference, value_not_in_reference, unknown_variable, variable_left_out, term_left_out, function_left_out, Flaw, whole, the_reference}
use Rattle.fluent_check.specs.Alone.{Side, untranslated, unreferenced}
use Rattle.fluent_differences.specs.Compared.{Wording, differences}

-- ---- values and attributes that stand on one side alone

abbrev words : List Element
words = say "words" ∷ []

abbrev title : String → Attribute
title name = attribute (codes name)

-- a message of these attributes
abbrev with_attributes : String → Option Pattern → List String → t.Entry
with_attributes id value names = message_entry (codes id) value (map (λ name. (codes name, pattern_of words)) names)

abbrev ids_of : List t.Entry → Names Text
ids_of es id = get id (added es [])

abbrev is_found : Target → Bool
is_found unknown = false
is_found without_value = false
is_found (found p) = true

-- the side of a source, each of whose places stands once
abbrev side_of : List t.Entry → Side
side_of es = record { named = ids_of es; places = filter (λ x. is_found (place_target (ids_of es) x)) (places_in es) }

-- both = words
-- lost = words
--     .title = words
-- parts =
--     .one = words
--     .two = words
-- value = words
--     .title = words
-- -brand = words
abbrev first : Side
first = side_of (
    entry "both" words
    ∷ with_attributes "lost" (Some (pattern_of words)) ("title" ∷ [])
    ∷ with_attributes "parts" None ("one" ∷ "two" ∷ [])
    ∷ with_attributes "value" (Some (pattern_of words)) ("title" ∷ [])
    ∷ private "brand" words
    ∷ [])

-- both = words
-- value =
--     .title = words
--     .more = words
abbrev second : Side
second = side_of (
    entry "both" words
    ∷ with_attributes "value" None ("title" ∷ "more" ∷ [])
    ∷ [])

abbrev value_of : String → Place
value_of id = of_message (codes id) no_attribute

abbrev attribute_of : String → String → Place
attribute_of id name = of_message (codes id) (attribute (codes name))

-- what both have
row_translated : untranslated first second (value_of "both") ≡ []
row_translated = refl

row_referenced : unreferenced first second (value_of "both") ≡ []
row_referenced = refl

-- a message that is missing is told by its value, once
row_missing : untranslated first second (value_of "lost") ≡ (whole, not_translated) ∷ []
row_missing = refl

row_told_by_value : untranslated first second (attribute_of "lost" "title") ≡ []
row_told_by_value = refl

-- and by each attribute, where it has no value
row_attributes : untranslated first second (attribute_of "parts" "two") ≡ (whole, not_translated) ∷ []
row_attributes = refl

-- the value of a message that is there
row_value : untranslated first second (value_of "value") ≡ (whole, value_not_translated) ∷ []
row_value = refl

row_its_attribute : untranslated first second (attribute_of "value" "title") ≡ []
row_its_attribute = refl

-- an attribute of a message that is there
row_attribute : unreferenced first second (attribute_of "value" "more") ≡ (whole, not_in_reference) ∷ []
row_attribute = refl

-- the same with the sides changed
row_extra : unreferenced second first (value_of "lost") ≡ (whole, not_in_reference) ∷ []
row_extra = refl

row_extra_value : unreferenced second first (value_of "value") ≡ (whole, value_not_in_reference) ∷ []
row_extra_value = refl

-- terms are a side's own
row_term : untranslated first second (of_term (codes "brand") no_attribute) ≡ []
row_term = refl

-- ---- what a value or an attribute names

-- a pattern, and the variables for which it asks
abbrev wording : List Element → List String → Wording
wording es asked = record { pattern = pattern_of es; asked = map (λ v. codes v) asked }

abbrev brand : Place
brand = of_term (codes "brand") no_attribute

-- how a translation differs, where it has the term -brand
abbrev differing : Wording → Wording → List Flaw
differing reference translation = differences (brand ∷ []) reference translation

-- { $name } to { F($name) }: none
row_same : differing (wording (put (var "name") ∷ []) ("name" ∷ [])) (wording (put (fun "F" (var "name" ∷ []) []) ∷ []) ("name" ∷ [])) ≡ []
row_same = refl

-- { $name } to { -brand }{ $nam }{ $nam }: told once, where it stands first
row_misspelt : differing (wording (put (var "name") ∷ []) ("name" ∷ [])) (wording (put (own "brand") ∷ put (var "nam") ∷ put (var "nam") ∷ []) ("nam" ∷ []))
    ≡ (the_reference 1, unknown_variable (codes "nam")) ∷ (whole, variable_left_out (codes "name")) ∷ []
row_misspelt = refl

-- A select without a default is numbered elsewhere.
row_numbered : differing (wording [] []) (wording (choose (var "n") (case "one" [] ∷ []) ∷ put (var "m") ∷ []) ("n" ∷ "m" ∷ []))
    ≡ (the_reference 0, unknown_variable (codes "n")) ∷ (the_reference 1, unknown_variable (codes "m")) ∷ []
row_numbered = refl

-- { $name } to { greeting }, which asks for $name and for $day: they are told at that message, where they stand
row_by_message : differing (wording (put (var "name") ∷ []) ("name" ∷ [])) (wording (put (msg "greeting") ∷ []) ("name" ∷ "day" ∷ [])) ≡ []
row_by_message = refl

-- { greeting }, which asks for $name, to { $name }: none
row_of_message : differing (wording (put (msg "greeting") ∷ []) ("name" ∷ [])) (wording (put (var "name") ∷ []) ("name" ∷ [])) ≡ []
row_of_message = refl

-- { -brand }{ -brand.case } to words: once
row_term_left_out : differing (wording (put (own "brand") ∷ put (term (codes "brand") (title "case") t.no_call) ∷ []) []) (wording words []) ≡ (whole, term_left_out brand) ∷ []
row_term_left_out = refl

-- A select on { -brand.case } refers to the term.
row_term_in_use : differing (wording (put (own "brand") ∷ []) []) (wording (choose (term (codes "brand") (title "case") t.no_call) (default "one" [] ∷ []) ∷ []) []) ≡ []
row_term_in_use = refl

-- The translation has no such term.
row_no_term : differing (wording (put (own "maker") ∷ []) []) (wording words []) ≡ []
row_no_term = refl

-- { DATETIME($day) } to { $day }
row_function_left_out : differing (wording (put (fun "DATETIME" (var "day" ∷ []) []) ∷ []) ("day" ∷ [])) (wording (put (var "day") ∷ []) ("day" ∷ [])) ≡ (whole, function_left_out (codes "DATETIME")) ∷ []
row_function_left_out = refl

-- { $n -> [one] words *[other] words } to words: what the reference only chooses by may be left out
row_chosen_by_variable : differing (wording (choose (var "n") (case "one" words ∷ default "other" words ∷ []) ∷ []) ("n" ∷ [])) (wording words []) ≡ []
row_chosen_by_variable = refl

-- { PLATFORM() -> [macos] words *[other] { DATETIME($n) } } to words
row_chosen_by_function : differing
    (wording (choose (fun "PLATFORM" [] []) (case "macos" words ∷ default "other" (put (fun "DATETIME" (var "n" ∷ []) []) ∷ []) ∷ []) ∷ []) ("n" ∷ []))
    (wording words [])
    ≡ (whole, variable_left_out (codes "n")) ∷ (whole, function_left_out (codes "DATETIME")) ∷ []
row_chosen_by_function = refl

-- { NUMBER($n) } to { $n }: none
row_number : differing (wording (put (fun "NUMBER" (var "n" ∷ []) []) ∷ []) ("n" ∷ [])) (wording (put (var "n") ∷ []) ("n" ∷ [])) ≡ []
row_number = refl

-- all in order: { DATETIME($day) }{ -brand }{ $b }{ $a } to { $y }{ $x }
row_in_order : differing
    (wording (put (fun "DATETIME" (var "day" ∷ []) []) ∷ put (own "brand") ∷ put (var "b") ∷ put (var "a") ∷ []) ("day" ∷ "b" ∷ "a" ∷ []))
    (wording (put (var "y") ∷ put (var "x") ∷ []) ("y" ∷ "x" ∷ []))
    ≡ (the_reference 0, unknown_variable (codes "y")) ∷ (the_reference 1, unknown_variable (codes "x"))
    ∷ (whole, variable_left_out (codes "day")) ∷ (whole, variable_left_out (codes "b")) ∷ (whole, variable_left_out (codes "a"))
    ∷ (whole, term_left_out brand) ∷ (whole, function_left_out (codes "DATETIME")) ∷ []
row_in_order = refl
