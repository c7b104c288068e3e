-- Worked rows: what is wrong with selects, by categories of English, Polish, French, Japanese and Arabic.
use Prim.Native.String.{String}
use Rattle.std.specs.Prelude.{◌≡◌, ℕ, Bool, true, false, codes, List, [], ◌∷◌, refl}
use Rattle.fluent_ast.specs.Tree.{attribute, no_call, Inline, Variant, number_key, pattern_of, term}
use Rattle.fluent_semantics.specs.Examples.{var, str, named, fun, case, case_number, default, choose}
use Rattle.fluent_patterns.specs.Categories.{Category, Categories, has_category, no_categories}
use Rattle.fluent_patterns.specs.Found.{Flaw, the_select, the_variant, no_category, never_comes, repeated_variant}
use Rattle.fluent_patterns.specs.Selects.{select_flaws}

-- ---- categories by hand, each with a few of its numbers

abbrev numbers : String → List ℕ → Category
numbers key ns = record { key = codes key; numbers = ns; exists = true }

-- the rules have it, and no whole number from 0 to 999
abbrev elsewhere : String → Category
elsewhere key = record { key = codes key; numbers = []; exists = true }

abbrev nowhere : String → Category
nowhere key = record { key = codes key; numbers = []; exists = false }

abbrev only_other : List Category
only_other = nowhere "zero" ∷ nowhere "one" ∷ nowhere "two" ∷ nowhere "few" ∷ nowhere "many" ∷ numbers "other" (0 ∷ 1 ∷ 2 ∷ []) ∷ []

abbrev english : Categories
english = record {
  cardinal = nowhere "zero" ∷ numbers "one" (1 ∷ []) ∷ nowhere "two" ∷ nowhere "few" ∷ nowhere "many" ∷ numbers "other" (0 ∷ 2 ∷ []) ∷ [];
  ordinal = nowhere "zero" ∷ numbers "one" (1 ∷ 21 ∷ []) ∷ numbers "two" (2 ∷ []) ∷ numbers "few" (3 ∷ []) ∷ nowhere "many" ∷ numbers "other" (0 ∷ 4 ∷ []) ∷ [];
  all = false;
}

abbrev polish : Bool → Categories
polish all = record {
  cardinal = nowhere "zero" ∷ numbers "one" (1 ∷ []) ∷ nowhere "two" ∷ numbers "few" (2 ∷ 3 ∷ 4 ∷ []) ∷ numbers "many" (0 ∷ 5 ∷ []) ∷ elsewhere "other" ∷ [];
  ordinal = only_other;
  all = all;
}

abbrev french : Bool → Categories
french all = record {
  cardinal = nowhere "zero" ∷ numbers "one" (0 ∷ 1 ∷ []) ∷ nowhere "two" ∷ nowhere "few" ∷ elsewhere "many" ∷ numbers "other" (2 ∷ 3 ∷ []) ∷ [];
  ordinal = nowhere "zero" ∷ numbers "one" (1 ∷ []) ∷ nowhere "two" ∷ nowhere "few" ∷ nowhere "many" ∷ numbers "other" (0 ∷ 2 ∷ []) ∷ [];
  all = all;
}

abbrev japanese : Categories
japanese = record { cardinal = only_other; ordinal = only_other; all = false }

abbrev arabic : Categories
arabic = record {
  cardinal = numbers "zero" (0 ∷ []) ∷ numbers "one" (1 ∷ []) ∷ numbers "two" (2 ∷ []) ∷ numbers "few" (3 ∷ []) ∷ numbers "many" (11 ∷ []) ∷ numbers "other" (100 ∷ []) ∷ [];
  ordinal = only_other;
  all = false;
}

-- ---- what is told

abbrev told : Categories → Inline → List Variant → List Flaw
told c x vs = select_flaws c (pattern_of (choose x vs ∷ []))

abbrev lacks : ℕ → String → Flaw
lacks n key = (the_select n, no_category (codes key))

abbrev never : ℕ → String → Flaw
never n key = (the_variant n, never_comes (codes key))

abbrev twice : ℕ → String → Flaw
twice n key = (the_variant n, repeated_variant (codes key))

-- a variant with no text
abbrev on : String → Variant
on key = case key []

abbrev on_number : String → Variant
on_number key = case_number key []

abbrev otherwise : String → Variant
otherwise key = default key []

abbrev ordinal : Inline
ordinal = fun "NUMBER" (var "n" ∷ []) (named "type" (str "ordinal") ∷ [])

-- ---- English

row_one_other : told english (var "n") (on "one" ∷ otherwise "other" ∷ []) ≡ []
row_one_other = refl

-- `few` never comes for how many, and comes for which one
row_few : told english (var "n") (on "one" ∷ on "few" ∷ otherwise "other" ∷ []) ≡ never 1 "few" ∷ []
row_few = refl

row_ordinal : told english ordinal (on "one" ∷ on "few" ∷ otherwise "other" ∷ []) ≡ lacks 0 "two" ∷ []
row_ordinal = refl

-- `[1]` serves for `one`
row_counted_out : told english (fun "NUMBER" (var "n" ∷ []) []) (on_number "1" ∷ on "few" ∷ otherwise "other" ∷ []) ≡ never 1 "few" ∷ []
row_counted_out = refl

-- another default than `other` serves for `other`, if it is a category
row_default : told english (var "n") (otherwise "one" ∷ []) ≡ []
row_default = refl

row_number_default : told english (var "n") (on "one" ∷ (number_key (codes "5"), pattern_of [], true) ∷ []) ≡ lacks 0 "other" ∷ []
row_number_default = refl

-- ---- Polish

row_no_few : told (polish false) (var "n") (on "one" ∷ otherwise "other" ∷ []) ≡ lacks 0 "few" ∷ lacks 0 "many" ∷ []
row_no_few = refl

-- only fractions are `other`
row_no_other : told (polish false) (var "n") (on "one" ∷ on "few" ∷ otherwise "many" ∷ []) ≡ []
row_no_other = refl

row_no_other_of_all : told (polish true) (var "n") (on "one" ∷ on "few" ∷ otherwise "many" ∷ []) ≡ lacks 0 "other" ∷ []
row_no_other_of_all = refl

row_zero : told (polish false) (var "n") (on "zero" ∷ on "one" ∷ on "few" ∷ otherwise "many" ∷ []) ≡ never 0 "zero" ∷ []
row_zero = refl

-- without plural keys a select is on no number
row_number_keys : told (polish false) (var "n") (on_number "1" ∷ otherwise "other" ∷ []) ≡ []
row_number_keys = refl

-- ---- French

-- only numbers from a million on are `many`
row_no_many : told (french false) (var "n") (on "one" ∷ otherwise "other" ∷ []) ≡ []
row_no_many = refl

row_no_many_of_all : told (french true) (var "n") (on "one" ∷ otherwise "other" ∷ []) ≡ lacks 0 "many" ∷ []
row_no_many_of_all = refl

row_many : told (french false) (var "n") (on "one" ∷ on "many" ∷ otherwise "other" ∷ []) ≡ []
row_many = refl

-- both 0 and 1 are `one`
row_zero_and_one : told (french false) (var "n") (on_number "0" ∷ on_number "1" ∷ on "many" ∷ otherwise "other" ∷ []) ≡ []
row_zero_and_one = refl

row_zero_alone : told (french false) (var "n") (on_number "0" ∷ on "many" ∷ otherwise "other" ∷ []) ≡ lacks 0 "one" ∷ []
row_zero_alone = refl

-- ---- Japanese and Arabic

row_japanese : told japanese (var "n") (on "one" ∷ otherwise "other" ∷ []) ≡ never 0 "one" ∷ []
row_japanese = refl

-- a default always comes
row_japanese_default : told japanese (var "n") (otherwise "one" ∷ []) ≡ []
row_japanese_default = refl

row_arabic : told arabic (var "n") (on_number "0" ∷ on "few" ∷ otherwise "other" ∷ []) ≡ lacks 0 "one" ∷ lacks 0 "two" ∷ lacks 0 "many" ∷ []
row_arabic = refl

-- ---- what is on no number

row_term_attribute : told english (term (codes "t") (attribute (codes "case")) no_call) (on "many" ∷ otherwise "other" ∷ []) ≡ []
row_term_attribute = refl

row_string : told english (str "x") (on "many" ∷ otherwise "other" ∷ []) ≡ []
row_string = refl

row_other_function : told english (fun "LENGTH" (var "n" ∷ []) []) (on "many" ∷ otherwise "other" ∷ []) ≡ []
row_other_function = refl

row_names : told english (var "n") (on "few" ∷ on "male" ∷ otherwise "other" ∷ []) ≡ []
row_names = refl

-- ---- variants that stand there before

-- whatever a select is on, and without a language
row_twice : told no_categories (var "case") (on "a" ∷ on "b" ∷ on "a" ∷ otherwise "other" ∷ on "a" ∷ []) ≡ twice 2 "a" ∷ twice 4 "a" ∷ []
row_twice = refl

-- numbers match by their value and their digits after the point
row_numbers_twice : told no_categories (var "n") (on_number "0" ∷ on_number "-0" ∷ on_number "1" ∷ on_number "1.0" ∷ on_number "01" ∷ otherwise "1" ∷ []) ≡ twice 1 "-0" ∷ twice 4 "01" ∷ []
row_numbers_twice = refl

-- ---- where

-- { { $a -> *[x] } }{ $n ->
--     [one] { $b -> [few] *[many] }
--     [few]
--    *[other]
-- }
row_places : select_flaws english (pattern_of (
    choose (var "a") (otherwise "x" ∷ [])
    ∷ choose (var "n") (
    case "one" (choose (var "b") (on "few" ∷ otherwise "many" ∷ []) ∷ [])
    ∷ on "few"
    ∷ otherwise "other"
    ∷ [])
    ∷ []))
    ≡ lacks 2 "one" ∷ never 2 "few" ∷ never 4 "few" ∷ []
row_places = refl

-- ---- which categories rules have

row_french_has : has_category (codes "one: i = 0,1; many: e = 0 and i != 0 and i % 1000000 = 0 and v = 0 or e != 0..5; other:") (codes "many") ≡ true
row_french_has = refl

row_french_lacks : has_category (codes "one: i = 0,1; many: e = 0 and i != 0 and i % 1000000 = 0 and v = 0 or e != 0..5; other:") (codes "few") ≡ false
row_french_lacks = refl

-- where there are no rules
row_other : has_category [] (codes "other") ≡ true
row_other = refl
