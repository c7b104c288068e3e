-- Worked rows: what patterns need, which of them are clean, and how many placeables they open.
use Rattle.std.specs.Prelude.{◌≡◌, [], ◌∷◌, None, codes}
use Rattle.fluent_ast.specs.Tree.{no_attribute, attribute, Pattern, Element, pattern_of, message_entry}
use Rattle.fluent_semantics.specs.Bundle.{Bundle}
use Rattle.fluent_semantics.specs.Examples.{NoCustom, say, put, var, str, msg, msg_attribute, own, own_with, named, fun, case, default, choose, entry, private, source}
use Rattle.fluent_places.specs.Places.{Names, names_of}
use Rattle.fluent_places.specs.Needs.{a_message, a_term, a_function, a_variable, a_default, needs, AsksFor}
use Rattle.fluent_clean.specs.Clean.{IsClean, placeables}

-- greeting = Hi { $user }
-- only =
--     .title = { greeting }
-- loop = { loop }
-- -brand = Fire { $x }{ $y }
abbrev pub b : Bundle NoCustom
b = source (
    entry "greeting" (say "Hi " ∷ put (var "user") ∷ [])
    ∷ message_entry (codes "only") None ((codes "title", pattern_of (put (msg "greeting") ∷ [])) ∷ [])
    ∷ entry "loop" (put (msg "loop") ∷ [])
    ∷ private "brand" (say "Fire " ∷ put (var "x") ∷ put (var "y") ∷ [])
    ∷ [])

abbrev pub ids : Names NoCustom
ids = names_of b

abbrev pub one : Element → Pattern
one e = pattern_of (e ∷ [])

-- ---- needs

-- { F($a, o: only.title) }{ $n ->
--     [one] { -brand("s", x: $w) }
--     [two] { greeting }
-- }, which has no default
abbrev pub every_kind : Pattern
every_kind = pattern_of (
    put (fun "F" (var "a" ∷ []) (named "o" (msg_attribute "only" "title") ∷ []))
    ∷ choose (var "n") (case "one" (put (own_with "brand" (str "s" ∷ []) (named "x" (var "w") ∷ [])) ∷ []) ∷ case "two" (put (msg "greeting") ∷ []) ∷ [])
    ∷ [])

-- { $n ->
--    *[one] { $a }
--     [two] { $b }
-- }
abbrev pub with_default : Pattern
with_default = one (choose (var "n") (default "one" (put (var "a") ∷ []) ∷ case "two" (put (var "b") ∷ []) ∷ []))

pub record Needed : Type 0 where
  pub in_order : needs every_kind ≡ a_function (codes "F") ∷ a_variable (codes "a") ∷ a_message (codes "only") (attribute (codes "title"))
      ∷ a_variable (codes "n") ∷ a_term (codes "brand") no_attribute (codes "x" ∷ []) ∷ a_variable (codes "w") ∷ a_message (codes "greeting") no_attribute ∷ a_default ∷ []
  -- those of all variants, and no default
  pub all_variants : needs with_default ≡ a_variable (codes "n") ∷ a_variable (codes "a") ∷ a_variable (codes "b") ∷ []
  pub text : needs (one (say "t")) ≡ []

-- ---- clean or not

pub record Cleanness : Type 0 where
  pub text : IsClean ids (one (say "t"))
  pub variable : IsClean ids with_default
  -- of a clean message, with an attribute
  pub message : IsClean ids (one (put (msg_attribute "only" "title")))
  pub builtin : IsClean ids (one (put (fun "NUMBER" [] [])))
  -- whatever variables its reference gives
  pub term : IsClean ids (one (put (own "brand")))
  pub no_value : IsClean ids (one (put (msg "only"))) → ⊥
  pub no_message : IsClean ids (one (put (msg "nothing"))) → ⊥
  pub no_term : IsClean ids (one (put (own "greeting"))) → ⊥
  pub no_function : IsClean ids (one (put (fun "F" [] []))) → ⊥
  pub no_default : IsClean ids (one (choose (var "n") (case "one" [] ∷ []))) → ⊥
  pub leads_back : IsClean ids (one (put (msg "loop"))) → ⊥
  -- in an argument too
  pub argument : IsClean ids (one (put (own_with "brand" [] (named "x" (msg "loop") ∷ [])))) → ⊥

pub record Asked : Type 0 where
  pub itself : AsksFor ids (codes "b") with_default
  pub by_message : AsksFor ids (codes "user") (one (put (msg_attribute "only" "title")))
  -- a term's variables are those that its reference gives
  pub not_by_term : AsksFor ids (codes "x") (one (put (own "brand"))) → ⊥
  -- what is given to it is asked for
  pub given : AsksFor ids (codes "w") (one (put (own_with "brand" [] (named "x" (var "w") ∷ []))))

-- ---- placeables

pub record Opened : Type 0 where
  pub text : placeables b (one (say "t")) ≡ 0
  pub variable : placeables b (one (put (var "x"))) ≡ 1
  -- its own and that of the message; an attribute's, of its message too
  pub message : placeables b (one (put (msg "greeting"))) ≡ 2
  pub attribute : placeables b (one (put (msg_attribute "only" "title"))) ≡ 3
  pub term : placeables b (one (put (own "brand"))) ≡ 3
  -- those of its arguments
  pub arguments : placeables b (one (put (own_with "brand" (msg "greeting" ∷ []) (named "x" (msg "greeting") ∷ [])))) ≡ 5
  -- of the variant that opens most
  pub largest : placeables b (one (choose (var "n") (case "one" (put (var "a") ∷ put (var "a") ∷ []) ∷ default "two" (put (var "a") ∷ []) ∷ []))) ≡ 3
  pub in_order : placeables b (pattern_of (put (var "a") ∷ say "t" ∷ put (msg "greeting") ∷ [])) ≡ 3
