-- What functions answer, by the types of the code.
use Rattle.std.specs.Prelude.{◌≡◌, List, map}
use Rattle.fluent_ast.specs.Tree.{Text}
use Rattle.fluent_semantics.specs.Value.{Value}
use Rattle.fluent_semantics.specs.Arguments.{Map}
use Rattle.fluent_values.specs.View.{value_view, named}
use Rattle.fluent_values.specs.ValuesWithoutMemory.{AsksForCurrency}
use Rattle.fluent_values.specs.declared.types.value.FluentValue.{FluentValue}
use Rattle.fluent_values.specs.declared.args.FluentArgs.{FluentArgs}

-- a function's answer to positional and named arguments
abbrev pub IsAnswer : {C : Type 0} → (C → Text) → (List (Value Text) → Map (Value Text) → Value Text) → List (FluentValue C) → FluentArgs C → FluentValue C → Type 0
IsAnswer content answer positional arguments v =
    value_view content v ≡ answer (map (value_view content) positional) (named content arguments)

-- NUMBER is asked for a number with a currency
abbrev pub IsForCurrency : {C : Type 0} → (C → Text) → List (FluentValue C) → FluentArgs C → Type 0
IsForCurrency content positional arguments =
    AsksForCurrency (map (value_view content) positional) (named content arguments)
