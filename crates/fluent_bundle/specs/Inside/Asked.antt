-- The pattern that is asked for by id.
use Rattle.std.specs.Prelude.{Option}
use Rattle.fluent_ast.specs.Tree.{Text, Pattern, Attribute, no_attribute, attribute}
use Rattle.fluent_ast.specs.View.{attribute_of}
use Rattle.fluent_ast.specs.declared.ast.Identifier.{Identifier}
use Rattle.fluent_semantics.specs.Bundle.{Bundle}
use Rattle.fluent_bundle.specs.BundleView.{value_at, attribute_at}

-- the value of a message, or its first attribute where a name is given
abbrev pub pattern_at : {C : Type 0} → Text → Attribute → Bundle C → Option Pattern
pattern_at id no_attribute b = value_at id b
pattern_at id (attribute name) b = attribute_at id name b

-- the same by what the code has of it
abbrev pub pattern_asked : {C : Type 0} → Text → Option Identifier → Bundle C → Option Pattern
pattern_asked id name = pattern_at id (attribute_of name)
