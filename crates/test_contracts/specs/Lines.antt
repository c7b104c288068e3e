-- Tables of plural rules, for worked rows of the definitions.
use Prim.Native.String.{String}
use Rattle.std.specs.Prelude.{ℕ, List, ◌∷◌, ◌++◌, Option, codes}
use Rattle.fluent_plural_rules.specs.Languages.{rules_of, Texts}

-- the line of a language: its tag, tab, `a`, tab, `b`
abbrev pub line : String → List ℕ
line tag = codes tag ++ 9 ∷ codes "a" ++ 9 ∷ codes "b"

-- the rules that it has
abbrev pub line_rules : Texts
line_rules = record { cardinal = codes "a"; ordinal = codes "b" }

-- a line after another one
abbrev pub after : List ℕ → List ℕ → List ℕ
after first more = first ++ 10 ∷ more

-- the rules of a language in a table
abbrev pub rules_in : List ℕ → String → Option Texts
rules_in table tag = rules_of table (codes tag)
