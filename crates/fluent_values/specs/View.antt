-- The content of the types of the code.
use Rattle.std.specs.Prelude.{map}
use Rattle.std.specs.Cow.{cow_str_bytes}
use Rattle.fluent_ast.specs.Tree.{Text}
use Rattle.fluent_intl.specs.Number.{number_of}
use Rattle.fluent_semantics.specs.Value.{Value, text_value, number_value, custom_value, error_value}
use Rattle.fluent_semantics.specs.Value as values_of
use Rattle.fluent_semantics.specs.Arguments.{Map}
use Rattle.fluent_values.specs.declared.types.value.FluentValue.{FluentValue}
use Rattle.fluent_values.specs.declared.types.value.FluentValue.TheVariants as values
use Rattle.fluent_values.specs.declared.args.FluentArgs.{FluentArgs}

-- a value by its content, a custom one by what its type states
abbrev pub value_view : {C : Type 0} → (C → Text) → FluentValue C → Value Text
value_view content (values.String s) = text_value (cow_str_bytes s)
value_view content (values.Number n) = number_value (number_of n)
value_view content (values.Custom c) = custom_value (content c)
value_view content values.None = values_of.no_value
value_view content values.Error = error_value

-- what each name means
unfoldable pub named : {C : Type 0} → (C → Text) → FluentArgs C → Map (Value Text)
named content a = map (λ e. (cow_str_bytes e.0, value_view content e.1)) a.pairs.items
