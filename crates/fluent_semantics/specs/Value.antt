-- What a variable holds or a function answers: the values of fluent-bundle, by their content.
use Rattle.std.specs.Prelude.{ℕ, ℤ, [], Bool, false, Option, Some, None}
use Rattle.fluent_ast.specs.Tree.{Text}
use Rattle.fluent_intl.specs.Decimal.{decimal_text}
use Rattle.fluent_intl.specs.Number.{Number, number_with}
use Rattle.fluent_intl.specs.Operands.{operands_of}
use Rattle.fluent_intl.specs.declared.operands.PluralOperands.{PluralOperands}
use Rattle.fluent_intl.specs.declared.plurals.PluralCategory.{PluralCategory}
use Rattle.fluent_intl.specs.declared.plurals.PluralRuleType.{PluralRuleType}
use Rattle.fluent_intl.specs.declared.plurals.PluralRuleType.TheVariants.{CARDINAL, ORDINAL}
use Rattle.fluent_intl.specs.declared.options.FluentNumberType.{FluentNumberType}
use Rattle.fluent_intl.specs.declared.options.FluentNumberType.TheVariants.{Cardinal, Ordinal}
use Rattle.fluent_semantics.specs.Number.{category_word, is_text, same_number, read_number}

-- a custom value stands by its content, of a type C
pub data Value (C : Type 0) : Type 0 where
  text_value : Text → Value C
  number_value : Number → Value C
  custom_value : C → Value C
  no_value : Value C
  error_value : Value C

-- what the type of custom values states of them
pub record Custom (C : Type 0) : Type 0 where
  pub text : C → Text
  pub same : C → C → Bool

-- which category the numbers of a type with these operands have
abbrev pub Plurals : Type 0
Plurals = PluralRuleType → PluralOperands → PluralCategory

-- a text itself, a number's and a custom value's own text, nothing for none and error
abbrev pub value_text : {C : Type 0} → Custom C → Value C → Text
value_text custom (text_value t) = t
value_text custom (number_value n) = decimal_text n.value n.options.minimum_fraction_digits
value_text custom (custom_value x) = custom.text x
value_text custom no_value = []
value_text custom error_value = []

-- values of one kind with equal content; none and error are the same as nothing, not even as themselves
abbrev pub same : {C : Type 0} → Custom C → Value C → Value C → Bool
same custom (text_value s) (text_value t) = is_text s t
same custom (number_value m) (number_value n) = same_number m n
same custom (custom_value x) (custom_value y) = custom.same x y
same custom _ _ = false

abbrev pub rule_type : FluentNumberType → PluralRuleType
rule_type Cardinal = CARDINAL
rule_type Ordinal = ORDINAL

abbrev pub category_of : Plurals → Number → PluralCategory
category_of plurals n = plurals (rule_type n.options.number_type) (operands_of n.value n.options.minimum_fraction_digits)

-- Equal texts, equal numbers, or a category's word and a number of that category. Custom values match nothing.
abbrev pub matches : {C : Type 0} → Plurals → Value C → Value C → Bool
matches plurals (text_value s) (text_value t) = is_text s t
matches plurals (number_value m) (number_value n) = same_number m n
matches plurals (text_value t) (number_value n) = is_text t (category_word (category_of plurals n))
matches plurals _ _ = false

abbrev pub read_value : {C : Type 0} → Text → Option (ℤ × Option ℕ) → Value C
read_value t None = text_value t
read_value t (Some r) = number_value (number_with r.0 r.1)

-- the number that a text is, else the text
abbrev pub try_number : {C : Type 0} → Text → Value C
try_number t = read_value t (read_number t)
