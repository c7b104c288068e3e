-- What a caller is asked, in bytes: a letter, and records of the values.
use Rattle.std.specs.Prelude.{◌≡◌, ℕ, List, [], ◌∷◌, ◌++◌, map, string_bytes}
use Rattle.fluent_ast.specs.Tree.{Text}
use Rattle.fluent_semantics.specs.Arguments.{Map}
use Rattle.fluent_semantics.specs.Value.{Value, text_value, number_value, custom_value, no_value, error_value}
use Rattle.fluent_answers.specs.Encoded.{all_encoded, encoded, sized_bytes}
use Rattle.fluent_answers.specs.Numbers.{number_text}
use Rattle.fluent_answers.specs.Records.{Record}
use Rattle.fluent_answers.specs.declared.kind.Kind.{Kind}
use Rattle.fluent_answers.specs.declared.kind.Kind.TheVariants as kind
use Rattle.fluent_answers.specs.declared.question.Asker.{Asker}
use Rattle.fluent_answers.specs.declared.question.Asker.TheVariants as asker

-- ---- values as records

abbrev pub kind_in : Value Text → Kind
kind_in (text_value t) = kind.Text
kind_in (number_value n) = kind.Number
kind_in (custom_value c) = kind.Own
kind_in no_value = kind.Nothing
kind_in error_value = kind.Error

abbrev pub text_in : Value Text → Text
text_in (text_value t) = t
text_in (number_value n) = number_text n
text_in (custom_value c) = c
text_in no_value = []
text_in error_value = []

abbrev pub record_of : Text → Value Text → Record
record_of name v = record { name = name; kind = kind_in v; value = text_in v }

-- a positional argument has no name
abbrev pub positional_record : Value Text → Record
positional_record v = record_of [] v

abbrev pub named_record : Text × Value Text → Record
named_record e = record_of e.0 e.1

-- ---- questions

-- `f`, the name of the function after its length, its positional arguments in order, and its named ones by their names
abbrev pub function_question : Text → List (Value Text) → Map (Value Text) → List ℕ
function_question name positional named =
    102 ∷ sized_bytes name ++ all_encoded (map positional_record positional) ++ all_encoded (map named_record named)

-- `v`, and the value that is to be shown
abbrev pub formatter_question : Value Text → List ℕ
formatter_question v = 118 ∷ encoded (record_of [] v)

-- `x`, and the text element after its length
abbrev pub transform_question : Text → List ℕ
transform_question t = 120 ∷ sized_bytes t

-- ---- who asks

-- a function of this name asks, with some arguments
pub record FunctionAsks (name : Text) (q : List ℕ) : Type 0 where
  pub positional : List (Value Text)
  pub named : Map (Value Text)
  pub is : q ≡ function_question name positional named

-- the formatter asks about a value
pub record FormatterAsks (q : List ℕ) : Type 0 where
  pub value : Value Text
  pub is : q ≡ formatter_question value

-- the transform asks about a text element
pub record TransformAsks (q : List ℕ) : Type 0 where
  pub element : Text
  pub is : q ≡ transform_question element

abbrev pub IsQuestion : Asker → List ℕ → Type 0
IsQuestion (asker.Function name) q = FunctionAsks (string_bytes name) q
IsQuestion asker.Formatter q = FormatterAsks q
IsQuestion asker.Transform q = TransformAsks q
