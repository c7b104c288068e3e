-- What the functions of the application answer.
use Rattle.std.specs.Prelude.{List, ◌∷◌, length, pos, None}
use Rattle.fluent_ast.specs.Tree.{Text}
use Rattle.fluent_intl.specs.Decimal.{whole}
use Rattle.fluent_intl.specs.Number.{number_with}
use Rattle.fluent_semantics.specs.Value.{Value, text_value, number_value, error_value}

-- how many bytes the first value has, if that is a text
abbrev pub strlen : List (Value Text) → Value Text
strlen (text_value t ∷ more) = number_value (number_with (whole (pos (length t))) None)
strlen _ = error_value
