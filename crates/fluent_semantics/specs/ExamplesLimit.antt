-- Worked examples: the limit on placeables.
use Rattle.std.specs.Prelude.{◌≡◌, ℕ, zero, suc, List, [], ◌∷◌, ◌++◌, codes}
use Rattle.fluent_ast.specs.Tree as t
use Rattle.fluent_ast.specs.Tree.{Element, Inline, nested, inline, placeable, Pattern, pattern_of}
use Rattle.fluent_semantics.specs.Bundle.{Bundle, add_resource, add_builtins, set_placeable_limit}
use Rattle.fluent_semantics.specs.Examples.{NoCustom, say, put, var, str, msg, own_with, fun, case, default, choose, times, entry, private, bundle, F, P, many, unknown_variable, too_many, MessageGives}

-- a placeable in this many brackets
abbrev pub in_brackets : ℕ → Inline → Inline
in_brackets zero x = x
in_brackets (suc n) x = nested (inline (in_brackets n x))

-- a call as the argument of this many calls
abbrev pub in_calls : ℕ → Inline
in_calls zero = fun "F" [] []
in_calls (suc n) = fun "F" (in_calls n ∷ []) []

abbrev pub long : List t.Entry
long = entry "m" (times 101 (put (str "a"))) ∷ entry "hundred" (times 100 (put (str "a")))
    ∷ entry "n" (say "x" ∷ put (msg "m") ∷ say "y" ∷ [])
    ∷ entry "z" (put (fun "NUMBER" (msg "m" ∷ var "q" ∷ []) []) ∷ [])
    ∷ entry "q" (say "x" ∷ put (nested (inline (msg "m"))) ∷ [])
    ∷ entry "within" (times 99 (put (str "a"))) ∷ entry "o" (say "x" ∷ put (msg "within") ∷ say "y" ∷ [])
    ∷ entry "s" (choose (fun "F" (msg "m" ∷ []) []) (case "x" (say "1" ∷ []) ∷ default "o" (say "2" ∷ []) ∷ []) ∷ say "q" ∷ [])
    ∷ private "u" (say "u" ∷ []) ∷ entry "t" (put (own_with "u" (msg "m" ∷ []) []) ∷ [])
    ∷ entry "brackets" (put (in_brackets 99 (str "x")) ∷ []) ∷ entry "calls" (put (in_calls 98) ∷ [])
    ∷ []

abbrev pub laughing : List t.Entry
laughing = entry "a" (say "lol" ∷ []) ∷ entry "b" (times 10 (put (msg "a"))) ∷ entry "c" (times 10 (put (msg "b"))) ∷ entry "d" (times 10 (put (msg "c"))) ∷ []

abbrev pub limited : ℕ → List t.Entry → Bundle NoCustom
limited n es = bundle (set_placeable_limit n ∷ add_builtins ∷ add_resource es ∷ [])

abbrev pub usual : List t.Entry → Bundle NoCustom
usual es = bundle (add_builtins ∷ add_resource es ∷ [])

-- where the limit of 100 is reached, and what follows
pub record Hundred : Type 0 where
  pub limit_reached_at_the_end : MessageGives (usual long) [] "m" (many 100 "a") (too_many ∷ [])
  pub not_limit_reached : MessageGives (usual long) [] "hundred" (many 100 "a") []
  pub limit_reached_below : MessageGives (usual long) [] "n" (codes "x" ++ (many 99 "a" ++ codes "{m}")) (too_many ∷ [])
  pub within_below : MessageGives (usual long) [] "o" (codes "x" ++ (many 99 "a" ++ codes "y")) []
  pub arguments_go_on : MessageGives (usual long) [] "z" (codes "NUMBER(){NUMBER()}") (too_many ∷ unknown_variable "q" ∷ [])
  pub nested_fallback : MessageGives (usual long) [] "q" (codes "x" ++ (F ++ (many 99 "a" ++ (codes "{m}" ++ P)))) (too_many ∷ [])
  pub selector : MessageGives (usual long) [] "s" (F ++ (codes "{F()}" ++ P)) (too_many ∷ [])
  pub term_arguments : MessageGives (usual long) [] "t" (codes "{-u}") (too_many ∷ [])
  pub brackets : MessageGives (usual long) [] "brackets" (codes "x") []
  pub calls : MessageGives (usual long) [] "calls" (codes "{F()}") (codes "Resolver error: Unknown function: F()" ∷ [])
  pub laughs : MessageGives (usual laughing) [] "c" (many 90 "lol" ++ codes "{b}") (too_many ∷ [])
  pub laughs_longer : MessageGives (usual laughing) [] "d" (many 90 "lol" ++ codes "{c}") (too_many ∷ [])

-- other limits
pub record Limits : Type 0 where
  pub at_first : (bundle []).limit ≡ 100
  pub none : (bundle (set_placeable_limit 0 ∷ [])).limit ≡ 100
  pub one : (bundle (set_placeable_limit 1 ∷ [])).limit ≡ 1
  pub most : (bundle (set_placeable_limit 10000 ∷ [])).limit ≡ 10000
  pub more : (bundle (set_placeable_limit 10000 ∷ set_placeable_limit 10001 ∷ [])).limit ≡ 10000
  pub more_at_first : (bundle (set_placeable_limit 10001 ∷ [])).limit ≡ 100
  pub one_more : MessageGives (limited 101 long) [] "m" (many 101 "a") []
  pub one_alone : MessageGives (limited 1 long) [] "n" (codes "x{m}") (too_many ∷ [])
  pub all_laughs : MessageGives (limited 1110 laughing) [] "d" (many 1000 "lol") []
  pub last_laugh : MessageGives (limited 1109 laughing) [] "d" (many 999 "lol" ++ codes "{b}{c}") (too_many ∷ [])
