-- Numbers with options, questions and answers, by rows.
use Prim.Native.String.{String}
use Rattle.std.specs.Prelude.{◌≡◌, ◌*◌, ◌^◌, ℕ, pos, false, List, [], ◌∷◌, ◌++◌, Some, None, codes}
use Rattle.fluent_ast.specs.Tree.{Text}
use Rattle.fluent_intl.specs.Decimal.{whole}
use Rattle.fluent_intl.specs.Number.{Number, number_with}
use Rattle.fluent_intl.specs.Options.{default_options}
use Rattle.fluent_intl.specs.declared.options.FluentNumberType.TheVariants as type
use Rattle.fluent_intl.specs.declared.options.FluentNumberStyle.TheVariants as style
use Rattle.fluent_intl.specs.declared.options.FluentNumberCurrencyDisplayStyle.TheVariants as display
use Rattle.fluent_semantics.specs.Value.{Value, text_value, number_value, custom_value, no_value, error_value}
use Rattle.fluent_answers.specs.Answered.{answer_in, changed_in, first_answer, formatted_in, function_in}
use Rattle.fluent_answers.specs.Numbers.{number_text, number_value_of}
use Rattle.fluent_answers.specs.OwnValues.{own_text}
use Rattle.fluent_answers.specs.Questions.{formatter_question, function_question, transform_question}
use Rattle.fluent_answers.specs.Tables.{Table}
use Rattle.fluent_answers.specs.Values.{value_of}
use Rattle.fluent_answers.specs.declared.kind.Kind.TheVariants as kind

-- one and a half with two digits after the point, and the same as an amount of money
abbrev amount : Number
amount = number_with (pos (15 * 10 ^ 17)) (Some 2)

abbrev euros : Number
euros = record { value = pos (15 * 10 ^ 17); options = record default_options { style = style.Currency; currency = Some (codes "EUR"); minimum_fraction_digits = Some 2 } }

abbrev word : String → Value Text
word s = text_value (codes s)

abbrev number : Number → Value Text
number n = number_value n

-- ---- numbers that are read

pub record NumberRows : Type 0 where
  pub plain : number_value_of (codes "1.50") ≡ number amount
  -- the digits are no minimum
  pub empty : number_value_of (codes "1.50;") ≡ number (number_with (pos (15 * 10 ^ 17)) None)
  pub empty_first : number_value_of (codes "1.50;;style=percent")
      ≡ number (record { value = pos (15 * 10 ^ 17); options = record default_options { style = style.Percent } })
  pub empty_later : number_value_of (codes "1.50;size=1;") ≡ number amount
  pub money : number_value_of (codes "1.50;style=currency;minimumFractionDigits=2;currency=EUR") ≡ number euros
  -- all of the rest is the currency
  pub rest : number_value_of (codes "2;currency=A;style=percent")
      ≡ number (record { value = whole (pos 2); options = record default_options { currency = Some (codes "A;style=percent") } })
  -- the last of a name stands
  pub last : number_value_of (codes "2;style=percent;style=decimal") ≡ number (number_with (whole (pos 2)) None)
  pub words : number_value_of (codes "2;type=ordinal;useGrouping=false;currencyDisplay=name")
      ≡ number (record { value = whole (pos 2); options = record default_options { number_type = type.Ordinal; use_grouping = false; currency_display = display.Name } })
  -- what NUMBER would ignore is ignored
  pub ignored : number_value_of (codes "2;size=5;maximumFractionDigits=many;style") ≡ number (number_with (whole (pos 2)) None)
  -- no number stands before the first semicolon
  pub text : number_value_of (codes "a;style=percent") ≡ word "a;style=percent"

-- ---- numbers that are written

pub record WrittenRows : Type 0 where
  pub plain : number_text (number_with (whole (pos 5)) None) ≡ codes "5"
  pub no_minimum : number_text (number_with (pos (15 * 10 ^ 17)) None) ≡ codes "1.5;"
  pub empty_first : number_text (record { value = pos (15 * 10 ^ 17); options = record default_options { style = style.Percent } }) ≡ codes "1.5;;style=percent"
  pub places : number_text amount ≡ codes "1.50;minimumFractionDigits=2"
  pub money : number_text euros ≡ codes "1.50;style=currency;minimumFractionDigits=2;currency=EUR"
  pub words : number_text (record { value = whole (pos 2); options = record default_options { number_type = type.Ordinal; use_grouping = false; currency_display = display.Code; maximum_significant_digits = Some 10 } })
      ≡ codes "2;currencyDisplay=code;useGrouping=false;maximumSignificantDigits=10;type=ordinal"

-- ---- questions

-- a length below 256
abbrev length_of : ℕ → List ℕ
length_of n = n ∷ 0 ∷ 0 ∷ 0 ∷ []

pub record QuestionRows : Type 0 where
  -- D($x, a: "b") where x is 5
  pub function : function_question (codes "D") (number (number_with (whole (pos 5)) None) ∷ []) ((codes "a", word "b") ∷ [])
      ≡ codes "f" ++ length_of 1 ++ codes "D" ++ codes "n" ++ length_of 0 ++ length_of 1 ++ codes "5" ++ codes "t" ++ length_of 1 ++ codes "a" ++ length_of 1 ++ codes "b"
  pub nothing : function_question (codes "D") (no_value ∷ error_value ∷ []) []
      ≡ codes "f" ++ length_of 1 ++ codes "D" ++ codes "o" ++ length_of 0 ++ length_of 0 ++ codes "e" ++ length_of 0 ++ length_of 0
  pub formatter : formatter_question (custom_value (codes "7\nMay")) ≡ codes "vc" ++ length_of 0 ++ length_of 5 ++ codes "7\nMay"
  pub transform : transform_question (codes "Hi") ≡ codes "x" ++ length_of 2 ++ codes "Hi"

-- ---- answers

-- D() is May, of the caller's own; Hi is to be written as HI; the value x is shown as usual
abbrev table : Table
table =
    (function_question (codes "D") [] [], (kind.Own, codes "7\nMay"))
    ∷ (transform_question (codes "Hi"), (kind.Text, codes "HI"))
    ∷ (formatter_question (word "x"), (kind.Nothing, []))
    ∷ (formatter_question (word "y"), (kind.Text, codes "Y"))
    ∷ (formatter_question (word "y"), (kind.Text, codes "Z"))
    ∷ []

pub record AnswerRows : Type 0 where
  pub function : function_in table (codes "D") [] [] ≡ custom_value (codes "7\nMay")
  pub shown : own_text (codes "7\nMay") ≡ codes "May"
  pub no_line : own_text (codes "7") ≡ []
  pub transform : changed_in table (codes "Hi") ≡ codes "HI"
  pub as_usual : formatted_in table (word "x") ≡ None
  -- the first answer stands
  pub formatter : formatted_in table (word "y") ≡ Some (codes "Y")
  pub not_answered : answer_in table (codes "?") ≡ error_value
  pub first : first_answer (codes "q") (record { name = codes "p"; kind = kind.Text; value = codes "1" } ∷ record { name = codes "q"; kind = kind.Text; value = codes "2" } ∷ record { name = codes "q"; kind = kind.Text; value = codes "3" } ∷ [])
      ≡ Some (kind.Text, codes "2")
  pub error : value_of kind.Error (codes "x") ≡ error_value
