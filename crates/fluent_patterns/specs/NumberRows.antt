-- Worked rows of calls of `NUMBER`.
use Rattle.std.specs.Prelude.{◌≡◌, [], ◌∷◌}
use Rattle.fluent_ast.specs.Tree.{Pattern, inline, nested, pattern_of}
use Rattle.fluent_semantics.specs.Examples.{put, var, str, num, msg, own, fun, default, choose}
use Rattle.fluent_patterns.specs.Found.{no_number, the_reference}
use Rattle.fluent_patterns.specs.Numbers.{no_numbers}

-- { NUMBER("a") }{ NUMBER($n) }{ NUMBER() }{ NUMBER(1) }{ F("a") }
abbrev pub in_order : Pattern
in_order = pattern_of (put (fun "NUMBER" (str "a" ∷ []) []) ∷ put (fun "NUMBER" (var "n" ∷ []) []) ∷ put (fun "NUMBER" [] []) ∷ put (fun "NUMBER" (num "1" ∷ []) []) ∷ put (fun "F" (str "a" ∷ []) []) ∷ [])

-- { NUMBER({ $n }) }{ NUMBER(greeting) }{ NUMBER(-brand) }{ NUMBER(F(NUMBER("a"))) }
abbrev pub by_kind : Pattern
by_kind = pattern_of (put (fun "NUMBER" (nested (inline (var "n")) ∷ []) []) ∷ put (fun "NUMBER" (msg "greeting" ∷ []) []) ∷ put (fun "NUMBER" (own "brand" ∷ []) [])
    ∷ put (fun "NUMBER" (fun "F" (fun "NUMBER" (str "a" ∷ []) [] ∷ []) [] ∷ []) []) ∷ [])

-- { NUMBER("a") ->
--    *[one] { NUMBER("b") }
-- }
abbrev pub in_a_select : Pattern
in_a_select = pattern_of (choose (fun "NUMBER" (str "a" ∷ []) []) (default "one" (put (fun "NUMBER" (str "b" ∷ []) []) ∷ []) ∷ []) ∷ [])

pub record Rows : Type 0 where
  pub numbered : no_numbers in_order ≡ (the_reference 0, no_number) ∷ (the_reference 3, no_number) ∷ []
  pub of_each_kind : no_numbers by_kind ≡ (the_reference 0, no_number) ∷ (the_reference 2, no_number) ∷ (the_reference 4, no_number) ∷ (the_reference 8, no_number) ∷ []
  pub of_selects : no_numbers in_a_select ≡ (the_reference 0, no_number) ∷ (the_reference 1, no_number) ∷ []
