-- What each part of a tree of the code refers to, in the order of the tree.
use Rattle.std.specs.Prelude.{List, Option, Box}
use Rattle.std.specs.declared.alloc.Global.{Global}
use Rattle.fluent_ast.specs.References.{Reference, references, in_element, in_expression, in_variants, in_inline, in_call, in_arguments, in_positional, in_named, variants_view, inlines_view, nameds_view}
use Rattle.fluent_ast.specs.View.{pattern_view, element_view, expression_view, inline_view, call_view, arguments_view}
use Rattle.fluent_ast.specs.declared.ast.Pattern.{Pattern}
use Rattle.fluent_ast.specs.declared.ast.PatternElement.{PatternElement}
use Rattle.fluent_ast.specs.declared.ast.Expression.{Expression}
use Rattle.fluent_ast.specs.declared.ast.Variant.{Variant}
use Rattle.fluent_ast.specs.declared.ast.InlineExpression.{InlineExpression}
use Rattle.fluent_ast.specs.declared.ast.CallArguments.{CallArguments}
use Rattle.fluent_ast.specs.declared.ast.NamedArgument.{NamedArgument}

abbrev pub references_of : Pattern → List Reference
references_of p = references (pattern_view p)

abbrev pub of_element : PatternElement → List Reference
of_element e = in_element (element_view e)

abbrev pub of_expression : Expression → List Reference
of_expression e = in_expression (expression_view e)

abbrev pub of_variants : List Variant → List Reference
of_variants vs = in_variants (variants_view vs)

abbrev pub of_inline : InlineExpression → List Reference
of_inline x = in_inline (inline_view x)

abbrev pub of_call : Option (Box CallArguments Global) → List Reference
of_call c = in_call (call_view c)

abbrev pub of_arguments : CallArguments → List Reference
of_arguments a = in_arguments (arguments_view a)

-- of positional arguments
abbrev pub of_inlines : List InlineExpression → List Reference
of_inlines xs = in_positional (inlines_view xs)

-- of named arguments
abbrev pub of_nameds : List NamedArgument → List Reference
of_nameds ns = in_named (nameds_view ns)
