-- Trees, bundles and results written by hand, for the worked examples.
use Prim.Native.String.{String}
use Rattle.std.specs.Prelude.{◌≡◌, ℕ, suc, zero, pos, ◌-◌, ◌*◌, ◌^◌, nat_le, ◌&&◌, List, [], ◌∷◌, ◌++◌, map, length, true, false, Option, Some, None, codes, if◌then◌else◌}
use Rattle.fluent_ast.specs.Tree as t
use Rattle.fluent_ast.specs.Tree.{Text, Key, name_key, number_key, no_attribute, attribute, Pattern, nothing, Element, text, placeable, inline, select, Inline, string, number, function, message, term, variable, nested, no_call, call, arguments, pattern_of, variants_of, inlines_of, nameds_of, message_entry, term_entry}
use Rattle.fluent_intl.specs.Number.{number_with}
use Rattle.fluent_intl.specs.Plurals.{english}
use Rattle.fluent_semantics.specs.Value.{Value, text_value, number_value, error_value}
use Rattle.fluent_semantics.specs.Arguments.{get, set_all}
use Rattle.fluent_semantics.specs.Errors.{Error, error_text}
use Rattle.fluent_semantics.specs.Bundle.{Bundle, Function, Call, Target, unknown, without_value, found, message_target, empty_bundle, after_all, add_resource, add_builtins}
use Rattle.fluent_semantics.specs.Result.{written_pattern, formatted}

-- ---- trees

abbrev pub say : String → Element
say s = text (codes s)

abbrev pub put : Inline → Element
put x = placeable (inline x)

abbrev pub var : String → Inline
var name = variable (codes name)

abbrev pub str : String → Inline
str s = string (codes s)

abbrev pub num : String → Inline
num s = number (codes s)

abbrev pub msg : String → Inline
msg id = message (codes id) no_attribute

abbrev pub msg_attribute : String → String → Inline
msg_attribute id name = message (codes id) (attribute (codes name))

abbrev pub own : String → Inline
own id = term (codes id) no_attribute no_call

abbrev pub named : String → Inline → Text × Inline
named name x = (codes name, x)

abbrev pub own_with : String → List Inline → List (Text × Inline) → Inline
own_with id xs ns = term (codes id) no_attribute (call (arguments (inlines_of xs) (nameds_of ns)))

abbrev pub fun : String → List Inline → List (Text × Inline) → Inline
fun name xs ns = function (codes name) (arguments (inlines_of xs) (nameds_of ns))

abbrev pub case : String → List Element → t.Variant
case key es = (name_key (codes key), pattern_of es, false)

abbrev pub case_number : String → List Element → t.Variant
case_number key es = (number_key (codes key), pattern_of es, false)

abbrev pub default : String → List Element → t.Variant
default key es = (name_key (codes key), pattern_of es, true)

abbrev pub choose : Inline → List t.Variant → Element
choose x vs = placeable (select x (variants_of vs))

abbrev pub times : {A : Type 0} → ℕ → A → List A
times zero e = []
times (suc n) e = e ∷ times n e

abbrev pub entry : String → List Element → t.Entry
entry id es = message_entry (codes id) (Some (pattern_of es)) []

abbrev pub private : String → List Element → t.Entry
private id es = term_entry (codes id) (pattern_of es) []

-- ---- bundles

-- no custom values but one, with an empty text
pub data NoCustom : Type 0 where
  only : NoCustom

abbrev pub bundle : List (Call NoCustom) → Bundle NoCustom
bundle calls = after_all calls (empty_bundle english record { text = λ x. []; same = λ x y. true })

-- one source, with the built-ins
abbrev pub source : List t.Entry → Bundle NoCustom
source es = bundle (add_builtins ∷ add_resource es ∷ [])

abbrev pub value_of : Bundle NoCustom → String → Pattern
value_of b id = of_target (message_target (get (codes id) b.ids) no_attribute)
  where
    of_target : Target → Pattern
    of_target (found p) = p
    of_target unknown = nothing
    of_target without_value = nothing

-- ---- values

abbrev pub Arguments : Type 0
Arguments = List (Text × Value NoCustom)

abbrev pub whole : ℕ → Value NoCustom
whole n = number_value (number_with (pos (n * 10 ^ 18)) None)

abbrev pub with : String → Value NoCustom → Arguments
with name v = (codes name, v) ∷ []

abbrev pub words : String → Value NoCustom
words s = text_value (codes s)

-- ---- functions, a formatter and a transform

abbrev pub answers : Value NoCustom → Function NoCustom
answers v xs named = v

abbrev pub text_length : Function NoCustom
text_length (text_value t ∷ vs) named = whole (length t)
text_length _ named = error_value

abbrev pub first_argument : Function NoCustom
first_argument (v ∷ vs) named = v
first_argument [] named = error_value

abbrev pub bracketed : Value NoCustom → Option Text
bracketed (text_value t) = Some (91 ∷ (t ++ 93 ∷ []))
bracketed _ = None

abbrev pub upper : Text → Text
upper t = map (λ b. if nat_le 97 b && nat_le b 122 then b - 32 else b) t

-- ---- results

-- U+2068 and U+2069
abbrev pub F : Text
F = 0xe2 ∷ 0x81 ∷ 0xa8 ∷ []

abbrev pub P : Text
P = 0xe2 ∷ 0x81 ∷ 0xa9 ∷ []

abbrev pub many : ℕ → String → Text
many zero s = []
many (suc n) s = codes s ++ many n s

abbrev pub texts : List Error → List Text
texts es = map error_text es

abbrev pub unknown_variable : String → Text
unknown_variable x = codes "Resolver error: Unknown variable: $" ++ codes x

abbrev pub too_many : Text
too_many = codes "Resolver error: Too many placeables"

abbrev pub cyclic : Text
cyclic = codes "Resolver error: Cyclical dependency detected"

abbrev pub written : Bundle NoCustom → Arguments → Pattern → Text × List Text
written b args p = let r = written_pattern b (set_all args []) p in (r.value, texts r.errors)

-- a pattern is written as this text, with errors of these texts
abbrev pub PatternWrites : Bundle NoCustom → Arguments → Pattern → Text → List Text → Type 0
PatternWrites b args p t es = written b args p ≡ (t, es)

-- the value of a message is
abbrev pub MessageGives : Bundle NoCustom → Arguments → String → Text → List Text → Type 0
MessageGives b args id t es = PatternWrites b args (value_of b id) t es

-- the value of a message is formatted as this text
abbrev pub Formats : Bundle NoCustom → Arguments → String → Text → Type 0
Formats b args id t = formatted b (written_pattern b (set_all args []) (value_of b id)).value ≡ t
