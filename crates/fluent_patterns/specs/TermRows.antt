-- Worked rows of what terms show, and of references to them.
use Rattle.std.specs.Prelude.{◌≡◌, List, [], ◌∷◌, Bool, codes}
use Rattle.fluent_ast.specs.Tree.{Text, Pattern, no_attribute, pattern_of}
use Rattle.fluent_semantics.specs.Arguments.{get}
use Rattle.fluent_semantics.specs.Bundle.{added}
use Rattle.fluent_semantics.specs.Examples.{say, put, var, str, msg, own, own_with, named, fun, case, default, choose, entry, private}
use Rattle.fluent_places.specs.Places.{Place, of_term, Names}
use Rattle.fluent_patterns.specs.Found.{not_given, unused_argument, the_reference}
use Rattle.fluent_patterns.specs.Names.{is_one_of, once, without}
use Rattle.fluent_patterns.specs.Shown.{shown}
use Rattle.fluent_patterns.specs.Terms.{term_flaws}
use Rattle.fluent_patterns.specs.declared.shown.Wanted.TheVariants.{Variables, Functions}

-- { $name }{ $n ->
--     [one] { $a }
--    *[two] { $name }{ NUMBER($m) }
-- }{ -brand($b) }{ greeting }
abbrev pub hello : Pattern
hello = pattern_of (
    put (var "name")
    ∷ choose (var "n") (case "one" (put (var "a") ∷ []) ∷ default "two" (put (var "name") ∷ put (fun "NUMBER" (var "m" ∷ []) []) ∷ []) ∷ [])
    ∷ put (own_with "brand" (var "b" ∷ []) [])
    ∷ put (msg "greeting")
    ∷ [])

abbrev pub ids : Names Text
ids id = get id (added (private "hello" (
    put (var "name")
    ∷ choose (var "n") (case "one" (put (var "a") ∷ []) ∷ default "two" (put (var "name") ∷ put (fun "NUMBER" (var "m" ∷ []) []) ∷ []) ∷ [])
    ∷ []) ∷ entry "greeting" (say "Hi" ∷ []) ∷ []) [])

-- each place asks for these
abbrev pub asks : Place → Text → Bool
asks x v = is_one_of (codes "name" ∷ codes "n" ∷ codes "a" ∷ codes "m" ∷ []) v

-- { $z }{ -hello(a: "1", y: "2", n: "3", y: "4") }{ -nothing(x: "1") }
abbrev pub caller : Pattern
caller = pattern_of (put (var "z")
    ∷ put (own_with "hello" [] (named "a" (str "1") ∷ named "y" (str "2") ∷ named "n" (str "3") ∷ named "y" (str "4") ∷ []))
    ∷ put (own_with "nothing" [] (named "x" (str "1") ∷ []))
    ∷ [])

abbrev pub term : Place
term = of_term (codes "hello") no_attribute

pub record Rows : Type 0 where
  pub outside_of_selectors : shown Variables hello ≡ codes "name" ∷ codes "a" ∷ codes "name" ∷ codes "m" ∷ []
  pub functions : shown Functions hello ≡ codes "NUMBER" ∷ []
  pub each_once : once (shown Variables hello) ≡ codes "name" ∷ codes "a" ∷ codes "m" ∷ []
  pub left : without (codes "a" ∷ []) (codes "b" ∷ codes "a" ∷ codes "c" ∷ []) ≡ codes "b" ∷ codes "c" ∷ []
  pub of_references : term_flaws ids asks caller ≡ (the_reference 1, not_given (codes "name") term) ∷ (the_reference 1, not_given (codes "m") term) ∷ (the_reference 1, unused_argument (codes "y") term) ∷ []
