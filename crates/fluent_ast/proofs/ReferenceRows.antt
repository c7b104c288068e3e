-- Worked references.
use Prim.Native.String.{String}
use Rattle.std.proofs.Common.{◌≡◌, List, [], ◌∷◌, false, true, refl}
use Rattle.std.specs.Prelude.{codes}
use Rattle.fluent_ast.specs.Tree.{Element, Inline, Named, Variant, name_key, no_attribute, attribute, text, placeable, inline, select, string, number, function, message, term, variable, nested, no_call, call, arguments, pattern_of, variants_of, inlines_of, nameds_of}
use Rattle.fluent_ast.specs.References.{references, a_message, a_term, a_function}

abbrev say : String → Element
say s = text (codes s)

abbrev put : Inline → Element
put x = placeable (inline x)

abbrev msg : String → Inline
msg id = message (codes id) no_attribute

abbrev own : String → List Inline → List Named → Inline
own id xs ns = term (codes id) no_attribute (call (arguments (inlines_of xs) (nameds_of ns)))

abbrev fun : String → List Inline → List Named → Inline
fun id xs ns = function (codes id) (arguments (inlines_of xs) (nameds_of ns))

abbrev named : String → Inline → Named
named name x = (codes name, x)

abbrev case : String → List Element → Variant
case key es = (name_key (codes key), pattern_of es, false)

abbrev default : String → List Element → Variant
default key es = (name_key (codes key), pattern_of es, true)

abbrev choose : Inline → List Variant → Element
choose x vs = placeable (select x (variants_of vs))

-- `x{ $v }{ "s" }{ 1 }` refers to nothing
pub row_nothing : references (pattern_of (say "x" ∷ put (variable (codes "v")) ∷ put (string (codes "s")) ∷ put (number (codes "1")) ∷ [])) ≡ []
row_nothing = refl

-- `{ a }{ -t }x{ a.b }`: each as often as it stands there, an attribute by its entry
pub row_in_order : references (pattern_of (put (msg "a") ∷ put (term (codes "t") no_attribute no_call) ∷ say "x" ∷ put (message (codes "a") (attribute (codes "b"))) ∷ []))
    ≡ a_message (codes "a") ∷ a_term (codes "t") ∷ a_message (codes "a") ∷ []
row_in_order = refl

-- `{ F(a, -t(x: 1)) -> [k] { b.c } *[o] { G() } }`: a selector before its variants
pub row_select : references (pattern_of (choose (fun "F" (msg "a" ∷ own "t" [] (named "x" (number (codes "1")) ∷ []) ∷ []) [])
    (case "k" (put (message (codes "b") (attribute (codes "c"))) ∷ []) ∷ default "o" (put (fun "G" [] []) ∷ []) ∷ []) ∷ []))
    ≡ a_function (codes "F") ∷ a_message (codes "a") ∷ a_term (codes "t") ∷ a_message (codes "b") ∷ a_function (codes "G") ∷ []
row_select = refl

-- `{{ -t(a, { b }, n: G(c)) }}`, which no source can say: positional arguments before the values of named ones
pub row_arguments : references (pattern_of (put (nested (inline (own "t" (msg "a" ∷ nested (inline (msg "b")) ∷ []) (named "n" (fun "G" (msg "c" ∷ []) []) ∷ [])))) ∷ []))
    ≡ a_term (codes "t") ∷ a_message (codes "a") ∷ a_message (codes "b") ∷ a_function (codes "G") ∷ a_message (codes "c") ∷ []
row_arguments = refl
