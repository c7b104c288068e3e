-- What records mean.
use Rattle.std.specs.Prelude.{◌≡◌, ℕ, List, [], map}
use Rattle.fluent_ast.specs.Tree.{Text}
use Rattle.fluent_semantics.specs.Arguments.{Map, set_all}
use Rattle.fluent_semantics.specs.Value.{Value, text_value, custom_value, no_value, error_value}
use Rattle.fluent_answers.specs.Numbers.{number_value_of}
use Rattle.fluent_answers.specs.Records.{Are, Record}
use Rattle.fluent_answers.specs.declared.kind.Kind.{Kind}
use Rattle.fluent_answers.specs.declared.kind.Kind.TheVariants as kind

-- the value of a kind with a text
abbrev pub value_of : Kind → Text → Value Text
value_of kind.Text t = text_value t
value_of kind.Number t = number_value_of t
value_of kind.Own t = custom_value t
value_of kind.Nothing t = no_value
value_of kind.Error t = error_value

abbrev pub record_value : Record → Value Text
record_value r = value_of r.kind r.value

abbrev pub argument_pair : Record → Text × Value Text
argument_pair r = (r.name, record_value r)

-- the arguments, set in order; the last of a repeated name stands
abbrev pub argument_values : List Record → Map (Value Text)
argument_values all = set_all (map argument_pair all) []

-- These bytes are arguments with these values.
pub record HaveValues (bytes : List ℕ) (values : Map (Value Text)) : Type 0 where
  pub all : List Record
  pub read : Are all bytes
  pub are : values ≡ argument_values all
