-- Values that are given as other types.
use Rattle.std.specs.Prelude.{Option, Some, None, ℤ}
use Rattle.fluent_intl.specs.Decimal.{whole}
use Rattle.fluent_intl.specs.Number.{number_with}
use Rattle.fluent_semantics.specs.Value.{Value, no_value, number_value}

-- what is there as a value, or no value
abbrev pub or_nothing : {A C : Type 0} → (A → Value C) → Option A → Value C
or_nothing value None = no_value
or_nothing value (Some x) = value x

-- a whole number as a value, with the default options
abbrev pub whole_value : {C : Type 0} → ℤ → Value C
whole_value x = number_value (number_with (whole x) None)
