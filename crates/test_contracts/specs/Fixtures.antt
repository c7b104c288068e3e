-- What the functions and formatters of fixtures answer.
use Rattle.std.specs.Prelude.{List, [], ◌∷◌, ◌++◌, Option, Some, None, codes, length, pos}
use Rattle.fluent_ast.specs.Tree.{Text}
use Rattle.fluent_intl.specs.Decimal.{whole}
use Rattle.fluent_intl.specs.Number.{number_with}
use Rattle.fluent_semantics.specs.Value.{Value, text_value, number_value, custom_value, no_value, error_value}

-- the length of the one text in bytes
abbrev pub length_of : List (Value Text) → Value Text
length_of (text_value t ∷ []) = number_value (number_with (whole (pos (length t))) None)
length_of _ = error_value

-- the word for the kind of a value
abbrev pub kind_word : Value Text → Text
kind_word (text_value _) = codes "text"
kind_word (number_value _) = codes "number"
kind_word (custom_value _) = codes "custom"
kind_word no_value = codes "nothing"
kind_word error_value = codes "error"

-- a text between brackets
abbrev pub in_brackets : Value Text → Option Text
in_brackets (text_value t) = Some ((codes "[" ++ t) ++ codes "]")
in_brackets _ = None
