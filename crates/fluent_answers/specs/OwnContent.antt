-- The text of a value of the caller's own.
use Rattle.std.specs.Prelude.{string_bytes}
use Rattle.fluent_ast.specs.Tree.{Text}
use Rattle.fluent_answers.specs.declared.own.OwnValue.{OwnValue}

abbrev pub own_content : OwnValue → Text
own_content own = string_bytes own.text
