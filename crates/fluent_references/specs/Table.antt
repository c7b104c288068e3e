-- The contents that are stored, by their classes.
use Rattle.std.specs.Prelude.{List, map}
use Rattle.fluent_ast.specs.Tree.{Pattern}
use Rattle.fluent_references.specs.Classes.{AreDistinct}
use Rattle.fluent_references.specs.Inside.Content.{content}
use Rattle.fluent_references.specs.declared.classes.Classes.{Classes}

abbrev pub table : Classes → List Pattern
table c = map content c.stored.keys

-- each stands there once
pub table_is_distinct : (c : Classes) → AreDistinct (table c)
table_is_distinct c = c.distinct
