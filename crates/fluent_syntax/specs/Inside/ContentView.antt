-- What follows the name of a message, by its content.
use Rattle.std.specs.Prelude.{Option}
use Rattle.fluent_ast.specs.Tree as t
use Rattle.fluent_ast.specs.View.{value_view, attribute_view}
use Rattle.fluent_syntax.specs.Inside.Reading.{all}
use Rattle.fluent_syntax.specs.declared.parser.entry.Content.{Content}

abbrev pub content_view : Content → Option t.Pattern × t.Attributes
content_view c = (value_view c.value, all attribute_view c.attributes)
