-- Worked rows of chains: which bundle answers, with what text and which errors.
use Prim.Native.String.{String}
use Rattle.std.specs.Prelude.{◌≡◌, List, [], ◌∷◌, ◌++◌, false, Some, None, codes}
use Rattle.fluent_ast.specs.Tree as t
use Rattle.fluent_ast.specs.Tree.{Text, Element, pattern_of, message_entry}
use Rattle.fluent_semantics.specs.Arguments.{set_all}
use Rattle.fluent_semantics.specs.Bundle.{Bundle, add_resource, add_function, set_formatter, set_placeable_limit, set_transform, set_use_isolating}
use Rattle.fluent_semantics.specs.Examples.{NoCustom, Arguments, say, put, var, str, msg, times, entry, private, bundle, with, words, answers, whole, bracketed, upper, F, P, many, texts, unknown_variable, too_many}
use Rattle.fluent_fallback.specs.Chain.{Shown, chain_value, chain_attribute}

-- ---- bundles

-- an attribute of one text
abbrev pub labelled : String → String → t.Attributes → t.Attributes
labelled name text others = (codes name, pattern_of (say text ∷ [])) ∷ others

-- a message of attributes alone, or of a value too
abbrev pub attributes_alone : String → t.Attributes → t.Entry
attributes_alone id as' = message_entry (codes id) None as'

abbrev pub with_attributes : String → List Element → t.Attributes → t.Entry
with_attributes id es as' = message_entry (codes id) (Some (pattern_of es)) as'

-- a bundle of these entries
abbrev pub of_entries : List t.Entry → Bundle NoCustom
of_entries es = bundle (add_resource es ∷ [])

-- a = 1; k without a value, with the attribute t; the term -b
abbrev pub first_bundle : Bundle NoCustom
first_bundle = of_entries (entry "a" (say "1" ∷ []) ∷ attributes_alone "k" (labelled "t" "x" []) ∷ private "b" (say "term" ∷ []) ∷ [])

-- a = 2, with two attributes t; b = { $x }; k = v
abbrev pub second_bundle : Bundle NoCustom
second_bundle = of_entries (
    with_attributes "a" (say "2" ∷ []) (labelled "t" "second" (labelled "t" "third" []))
    ∷ entry "b" (put (var "x") ∷ [])
    ∷ entry "k" (say "v" ∷ [])
    ∷ [])

abbrev pub two : List (Bundle NoCustom)
two = first_bundle ∷ second_bundle ∷ []

-- m, of 101 placeables, of which all may be opened; p, of two, of which one may
abbrev pub long : Bundle NoCustom
long = bundle (set_placeable_limit 101 ∷ add_resource (entry "m" (times 101 (put (str "a"))) ∷ []) ∷ [])

abbrev pub short : Bundle NoCustom
short = bundle (set_placeable_limit 1 ∷ add_resource (entry "p" (put (str "b") ∷ put (str "c") ∷ []) ∷ []) ∷ [])

-- y { $n }! under a transform, and under a formatter
abbrev pub greeting : String → List t.Entry
greeting id = entry id (say "y " ∷ put (var "n") ∷ say "!" ∷ []) ∷ []

abbrev pub shouting : Bundle NoCustom
shouting = bundle (set_transform (Some upper) ∷ add_resource (greeting "loud") ∷ [])

abbrev pub in_brackets : Bundle NoCustom
in_brackets = bundle (set_formatter (Some bracketed) ∷ set_use_isolating false ∷ add_resource (greeting "framed") ∷ [])

-- ---- what is shown

abbrev pub told : Shown → Text × List Text
told shown = (shown.text, texts shown.errors)

-- the value of a message is shown so, with errors of these texts
abbrev pub Shows : List (Bundle NoCustom) → Arguments → String → Text → List Text → Type 0
Shows bundles args id t es = told (chain_value (codes id) (set_all args []) bundles) ≡ (t, es)

-- and an attribute of it
abbrev pub ShowsAttribute : List (Bundle NoCustom) → String → String → Text → Type 0
ShowsAttribute bundles id name t =
    told (chain_attribute (codes id) (codes name) [] bundles) ≡ (t, [])

abbrev pub unknown_message : String → Text
unknown_message id = codes "Resolver error: Unknown message: " ++ codes id

pub record Values : Type 0 where
  -- the first that has it
  pub first : Shows two [] "a" (codes "1") []
  pub other_way_round : Shows (second_bundle ∷ first_bundle ∷ []) [] "a" (codes "2") []
  -- a term of that id is no message
  pub second : Shows two [] "b" (codes "{$x}") (unknown_variable "x" ∷ [])
  pub with_arguments : Shows two (with "x" (words "z")) "b" (codes "z") []
  -- a message without a value is passed over
  pub without_value : Shows two [] "k" (codes "v") []
  -- no bundle has it
  pub nowhere : Shows two [] "c" (codes "c") []
  pub without_value_alone : Shows (first_bundle ∷ []) [] "k" (codes "k") []
  pub no_bundle : Shows [] [] "a" (codes "a") []
  pub no_id : Shows two [] "" [] []
  -- a bundle looks up references in itself alone
  pub reference : Shows (of_entries (entry "a" (put (msg "b") ∷ []) ∷ []) ∷ of_entries (entry "b" (say "2" ∷ []) ∷ []) ∷ []) [] "a" (codes "{b}") (unknown_message "b" ∷ [])
  -- a function of that id is no message
  pub function : Shows (bundle (add_function (codes "a") (answers (whole 3)) ∷ []) ∷ two) [] "a" (codes "1") []
  -- each bundle has its own limit, transform, formatter and isolation
  pub own_limit : Shows (short ∷ long ∷ []) [] "m" (many 101 "a") []
  pub other_limit : Shows (long ∷ short ∷ []) [] "p" (codes "b") (too_many ∷ [])
  pub own_transform : Shows (in_brackets ∷ shouting ∷ []) (with "n" (words "z")) "loud" (codes "Y " ++ (F ++ (codes "z" ++ (P ++ codes "!")))) []
  pub own_formatter : Shows (shouting ∷ in_brackets ∷ []) (with "n" (words "z")) "framed" (codes "[y [z]!]") []
  -- of which the id, as a text that no bundle has, takes none
  pub id_unchanged : Shows (shouting ∷ in_brackets ∷ []) [] "nobody" (codes "nobody") []

pub record Attributes : Type 0 where
  pub first : ShowsAttribute two "k" "t" (codes "x")
  -- the first bundle has the message, and not the attribute; of two attributes of one name the first
  pub second : ShowsAttribute two "a" "t" (codes "second")
  -- no bundle has it
  pub nowhere : ShowsAttribute two "a" "u" (codes "a")
  pub no_message : ShowsAttribute two "c" "t" (codes "c")
  -- a value is no attribute
  pub no_name : ShowsAttribute two "a" "" (codes "a")
