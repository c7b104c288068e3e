-- What takes no memory, by rows.
use Prim.Native.String.{String}
use Rattle.std.specs.Prelude.{◌≡◌, [], ◌∷◌, Some, None, codes, pos}
use Rattle.std.specs.Prelude.{String as Owned}
use Rattle.std.specs.Borrow.{Bor}
use Rattle.std.specs.declared.borrow.CowStr.TheVariants as texts
use Rattle.std.proofs.Common.{Global}
use Rattle.fluent_ast.specs.Tree.{Text}
use Rattle.fluent_intl.specs.Number.{number_with}
use Rattle.fluent_intl.specs.Options.{default_options}
use Rattle.fluent_intl.specs.declared.number.FluentNumber.{FluentNumber}
use Rattle.fluent_semantics.specs.Value.{Value, text_value, number_value}
use Rattle.fluent_semantics.specs.Arguments.{Map}
use Rattle.fluent_values.specs.ValuesWithoutMemory.{IsTextless, IsBorrowed, HasOwnText, IsEmpty, IsTextGiven, AsksForCurrency}
use Rattle.fluent_values.specs.declared.types.custom.NoCustom.{NoCustom}
use Rattle.fluent_values.specs.declared.types.value.FluentValue.{FluentValue}
use Rattle.fluent_values.specs.declared.types.value.FluentValue.TheVariants as values

-- ---- values of the code

abbrev Of : Type 0
Of = FluentValue NoCustom

abbrev number : FluentNumber → Of
number = values.Number

abbrev owned : Owned Global → Of
owned s = values.String (texts.Owned s)

abbrev borrowed : Bor Text → Of
borrowed t = values.String (texts.Borrowed t)

abbrev none : Of
none = values.None

abbrev error : Of
error = values.Error

abbrev custom : NoCustom → Of
custom = values.Custom

-- a copy of a value that borrows nothing
pub record Textless : Type 0 where
  pub of_none : IsTextless none
  pub of_error : IsTextless error
  pub plain : (n : FluentNumber) → n.options.currency ≡ None → IsTextless (number n)
  pub not_currency : (n : FluentNumber) (code : Owned Global) → n.options.currency ≡ Some code → IsTextless (number n) → ⊥
  pub not_owned : (s : Owned Global) → IsTextless (owned s) → ⊥
  pub not_borrowed : (t : Bor Text) → IsTextless (borrowed t) → ⊥
  pub not_custom : (x : NoCustom) → IsTextless (custom x) → ⊥

-- a copy of a value, whose text may stay borrowed
pub record BorrowedTexts : Type 0 where
  pub of_none : IsBorrowed none
  pub of_error : IsBorrowed error
  pub plain : (n : FluentNumber) → n.options.currency ≡ None → IsBorrowed (number n)
  pub of_borrowed : (t : Bor Text) → IsBorrowed (borrowed t)
  pub not_currency : (n : FluentNumber) (code : Owned Global) → n.options.currency ≡ Some code → IsBorrowed (number n) → ⊥
  pub not_owned : (s : Owned Global) → IsBorrowed (owned s) → ⊥
  pub not_custom : (x : NoCustom) → IsBorrowed (custom x) → ⊥

-- a value whose own text is written
pub record OwnTexts : Type 0 where
  pub of_none : HasOwnText none
  pub of_error : HasOwnText error
  pub of_number : (n : FluentNumber) → HasOwnText (number n)
  pub of_borrowed : (t : Bor Text) → HasOwnText (borrowed t)
  pub of_owned : (s : Owned Global) → HasOwnText (owned s)
  pub not_custom : (x : NoCustom) → HasOwnText (custom x) → ⊥

-- a value without a text
pub record Empty : Type 0 where
  pub of_none : IsEmpty none
  pub of_error : IsEmpty error
  pub not_number : (n : FluentNumber) → IsEmpty (number n) → ⊥
  pub not_borrowed : (t : Bor Text) → IsEmpty (borrowed t) → ⊥
  pub not_owned : (s : Owned Global) → IsEmpty (owned s) → ⊥
  pub not_custom : (x : NoCustom) → IsEmpty (custom x) → ⊥

-- ---- contents

abbrev word : String → Value Text
word s = text_value (codes s)

abbrev five : Value Text
five = number_value (number_with (pos 5) None)

abbrev euros : Value Text
euros = number_value (record (number_with (pos 5) None) { options = record default_options { currency = Some (codes "EUR") } })

-- one argument
abbrev given : String → Value Text → Map (Value Text)
given name v = (codes name, v) ∷ []

-- the options of NUMBER
pub record Currencies : Type 0 where
  pub text : IsTextGiven (Some (word "EUR"))
  pub not_number : IsTextGiven (Some five) → ⊥
  pub not_nothing : IsTextGiven None → ⊥
  pub of_the_number : AsksForCurrency (euros ∷ []) []
  pub of_the_arguments : AsksForCurrency (five ∷ []) (given "currency" (word "EUR"))
  pub not_plain : AsksForCurrency (five ∷ []) [] → ⊥
  pub not_a_number : AsksForCurrency (five ∷ []) (given "currency" five) → ⊥
  pub not_another_name : AsksForCurrency (five ∷ []) (given "style" (word "currency")) → ⊥
  pub not_the_second : AsksForCurrency (five ∷ euros ∷ []) [] → ⊥
  pub not_of_a_text : AsksForCurrency (word "5" ∷ []) (given "currency" (word "EUR")) → ⊥
  pub not_of_nothing : AsksForCurrency [] (given "currency" (word "EUR")) → ⊥
