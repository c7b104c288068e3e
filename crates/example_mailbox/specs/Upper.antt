-- What the function UPPER answers.
use Rattle.std.specs.Prelude.{List, ◌∷◌}
use Rattle.std.specs.StrCase.Upper.{str_to_uppercase}
use Rattle.fluent_ast.specs.Tree.{Text}
use Rattle.fluent_semantics.specs.Value.{Value, text_value, error_value}

-- the first value in capital letters, if that is a text
abbrev pub upper : List (Value Text) → Value Text
upper (text_value t ∷ more) = text_value (str_to_uppercase t)
upper _ = error_value
