-- What takes no memory, so that it can't fail.
use Rattle.std.specs.Prelude.{◌≡◌, ⊤, List, ◌∷◌, Option, Some, None, codes}
use Rattle.std.specs.declared.borrow.CowStr.TheVariants as text
use Rattle.fluent_ast.specs.Tree.{Text}
use Rattle.fluent_semantics.specs.Value.{Value, text_value, number_value}
use Rattle.fluent_semantics.specs.Arguments.{Map, get}
use Rattle.fluent_values.specs.declared.types.value.FluentValue.{FluentValue}
use Rattle.fluent_values.specs.declared.types.value.FluentValue.TheVariants as values

-- a value with no text of its own: a number without a currency, none or error
abbrev pub IsTextless : {C : Type 0} → FluentValue C → Type 0
IsTextless (values.Number n) = n.options.currency ≡ None
IsTextless values.None = ⊤
IsTextless values.Error = ⊤
IsTextless _ = ⊥

-- the same, or a text that is borrowed
abbrev pub IsBorrowed : {C : Type 0} → FluentValue C → Type 0
IsBorrowed (values.String (text.Borrowed t)) = ⊤
IsBorrowed v = IsTextless v

-- a value with a text of its own, or with none at all: each but a custom one
abbrev pub HasOwnText : {C : Type 0} → FluentValue C → Type 0
HasOwnText (values.Custom x) = ⊥
HasOwnText _ = ⊤

-- none or error, whose text is empty
abbrev pub IsEmpty : {C : Type 0} → FluentValue C → Type 0
IsEmpty values.None = ⊤
IsEmpty values.Error = ⊤
IsEmpty _ = ⊥

-- an argument that is a text
abbrev pub IsTextGiven : Option (Value Text) → Type 0
IsTextGiven (Some (text_value t)) = ⊤
IsTextGiven _ = ⊥

-- a currency, or one that is given
abbrev pub HasCurrency : Option Text → Option (Value Text) → Type 0
HasCurrency (Some code) given = ⊤
HasCurrency None given = IsTextGiven given

-- NUMBER is asked for a number with a currency
abbrev pub AsksForCurrency : List (Value Text) → Map (Value Text) → Type 0
AsksForCurrency (number_value n ∷ vs) named = HasCurrency n.options.currency (get (codes "currency") named)
AsksForCurrency _ named = ⊥
