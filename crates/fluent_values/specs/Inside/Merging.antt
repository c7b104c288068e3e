-- How the parts of `merge` in the code stand to `merge` of the meaning: the currency first, as it takes memory, and then the rest.
use Rattle.std.specs.Prelude.{◌≡◌, [], ◌∷◌, Option, Some, None, codes}
use Rattle.fluent_ast.specs.Tree.{Text}
use Rattle.fluent_intl.specs.Options.{Options, options_of}
use Rattle.fluent_intl.specs.declared.options.FluentNumberOptions.{FluentNumberOptions}
use Rattle.fluent_semantics.specs.Value.{Value, text_value, number_value, custom_value, no_value, error_value}
use Rattle.fluent_semantics.specs.Arguments.{Map, get, merge, merge_text, merge_one}
use Rattle.fluent_values.specs.View.{named}
use Rattle.fluent_values.specs.ValuesWithoutMemory.{IsTextGiven}
use Rattle.fluent_values.specs.declared.args.FluentArgs.{FluentArgs}

-- the currency that an argument gives, if it is a text
abbrev pub currency_by : Option (Value Text) → Option Text → Option Text
currency_by None c = c
currency_by (Some (text_value t)) c = Some t
currency_by (Some (number_value n)) c = c
currency_by (Some (custom_value x)) c = c
currency_by (Some no_value) c = c
currency_by (Some error_value) c = c

abbrev pub with_currency : Map (Value Text) → Options → Options
with_currency m o = record o { currency = currency_by (get (codes "currency") m) o.currency }

-- what one argument makes of all but the currency
abbrev pub with_text : Text → Text → Options → Options
with_text name t o = record (merge_text name t o) { currency = o.currency }

abbrev pub with_one : Text → Value Text → Options → Options
with_one name v o = record (merge_one name v o) { currency = o.currency }

-- each argument, in the order of names
abbrev pub with_rest : Map (Value Text) → Options → Options
with_rest [] o = o
with_rest (e ∷ es) o = with_rest es (with_one e.0 e.1 o)

-- options with what arguments ask for
abbrev pub merged : {C : Type 0} → (C → Text) → FluentArgs C → Options → Options
merged content args o = merge (named content args) o

-- a text is given as the currency
abbrev pub GivesCurrency : {C : Type 0} → (C → Text) → FluentArgs C → Type 0
GivesCurrency content args = IsTextGiven (get (codes "currency") (named content args))

-- what a change makes of options
abbrev pub IsMadeBy : (Options → Options) → FluentNumberOptions → FluentNumberOptions → Type 0
IsMadeBy change o o' = options_of o' ≡ change (options_of o)
