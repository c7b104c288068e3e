-- The content of the tree of the code, type by type.
use Rattle.std.specs.Prelude.{List, map, Option, Some, None}
use Rattle.std.specs.Global.{Box}
use Rattle.fluent_ast.specs.Tree as t
use Rattle.fluent_ast.specs.Tree.{Text, Key, name_key, number_key, Element, text, placeable, inline, select, Inline, string, number, function, message, term, variable, nested, Call, no_call, call, Arguments, arguments, Named, variants_of, inlines_of, nameds_of, pattern_of, Attributes, no_attribute, attribute, message_entry, term_entry, junk_entry}
use Rattle.fluent_ast.specs.declared.ast.Identifier.{Identifier}
use Rattle.fluent_ast.specs.declared.ast.VariantKey.{VariantKey}
use Rattle.fluent_ast.specs.declared.ast.VariantKey.TheVariants as keys
use Rattle.fluent_ast.specs.declared.ast.Pattern as of_pattern
use Rattle.fluent_ast.specs.declared.ast.Variant as of_variant
use Rattle.fluent_ast.specs.declared.ast.NamedArgument as of_named
use Rattle.fluent_ast.specs.declared.ast.CallArguments as of_call
use Rattle.fluent_ast.specs.declared.ast.PatternElement as of_element
use Rattle.fluent_ast.specs.declared.ast.Expression as of_expression
use Rattle.fluent_ast.specs.declared.ast.InlineExpression as of_inline
use Rattle.fluent_ast.specs.declared.ast.Expression.TheOpen as level
use Rattle.fluent_ast.specs.declared.ast.Attribute as of_attribute
use Rattle.fluent_ast.specs.declared.ast.Message as of_message
use Rattle.fluent_ast.specs.declared.ast.Term as of_term
use Rattle.fluent_ast.specs.declared.ast.Entry as of_entry
use Rattle.fluent_ast.specs.declared.ast.Entry.TheVariants as entries
use Rattle.fluent_ast.specs.declared.ast.Resource as of_resource

abbrev pub name_view : Identifier → Text
name_view i = i.name.now

abbrev pub key_view : VariantKey → Key
key_view (keys.Identifier name) = name_key name.now
key_view (keys.NumberLiteral n) = number_key n.now

abbrev pub attribute_of : Option Identifier → t.Attribute
attribute_of None = no_attribute
attribute_of (Some i) = attribute i.name.now

abbrev pub call_of : Option (Box Arguments) → Call
call_of None = no_call
call_of (Some b) = call b.value

-- ---- one level of each type that reaches itself, with what it holds already seen

abbrev pub expression_step : level.Expression-F t.Expression Inline Element Arguments Named t.Pattern t.Variant → t.Expression
expression_step (level.Inline x) = inline x
expression_step (level.Select x vs) = select x (variants_of vs.items)

abbrev pub inline_step : level.InlineExpression-F t.Expression Inline Element Arguments Named t.Pattern t.Variant → Inline
inline_step (level.StringLiteral t) = string t.now
inline_step (level.NumberLiteral t) = number t.now
inline_step (level.FunctionReference id b) = function id.name.now b.value
inline_step (level.MessageReference id a) = message id.name.now (attribute_of a)
inline_step (level.TermReference id a c) = term id.name.now (attribute_of a) (call_of c)
inline_step (level.VariableReference id) = variable id.name.now
inline_step (level.InlineExpression::Placeable b) = nested b.value

abbrev pub element_step : level.PatternElement-F t.Expression Inline Element Arguments Named t.Pattern t.Variant → Element
element_step (level.TextElement t) = text t.now
element_step (level.PatternElement::Placeable e) = placeable e

abbrev pub arguments_step : level.CallArguments-F t.Expression Inline Element Arguments Named t.Pattern t.Variant → Arguments
arguments_step c = arguments (inlines_of c.positional.items) (nameds_of c.named.items)

abbrev pub named_step : level.NamedArgument-F t.Expression Inline Element Arguments Named t.Pattern t.Variant → Named
named_step n = (n.name.name.now, n.value)

abbrev pub pattern_step : level.Pattern-F t.Expression Inline Element Arguments Named t.Pattern t.Variant → t.Pattern
pattern_step p = pattern_of p.elements.items

abbrev pub variant_step : level.Variant-F t.Expression Inline Element Arguments Named t.Pattern t.Variant → t.Variant
variant_step v = (key_view v.key, v.value, v.default)

-- ---- the content of each

abbrev pub pattern_view : of_pattern.Pattern → t.Pattern
pattern_view = of_pattern.fold-Pattern t.Expression Inline Element Arguments Named t.Pattern t.Variant expression_step inline_step element_step arguments_step named_step pattern_step variant_step

abbrev pub element_view : of_element.PatternElement → Element
element_view = of_element.fold-PatternElement t.Expression Inline Element Arguments Named t.Pattern t.Variant expression_step inline_step element_step arguments_step named_step pattern_step variant_step

abbrev pub expression_view : of_expression.Expression → t.Expression
expression_view = of_expression.fold-Expression t.Expression Inline Element Arguments Named t.Pattern t.Variant expression_step inline_step element_step arguments_step named_step pattern_step variant_step

abbrev pub inline_view : of_inline.InlineExpression → Inline
inline_view = of_inline.fold-InlineExpression t.Expression Inline Element Arguments Named t.Pattern t.Variant expression_step inline_step element_step arguments_step named_step pattern_step variant_step

abbrev pub arguments_view : of_call.CallArguments → Arguments
arguments_view = of_call.fold-CallArguments t.Expression Inline Element Arguments Named t.Pattern t.Variant expression_step inline_step element_step arguments_step named_step pattern_step variant_step

abbrev pub variant_view : of_variant.Variant → t.Variant
variant_view = of_variant.fold-Variant t.Expression Inline Element Arguments Named t.Pattern t.Variant expression_step inline_step element_step arguments_step named_step pattern_step variant_step

abbrev pub named_view : of_named.NamedArgument → Named
named_view = of_named.fold-NamedArgument t.Expression Inline Element Arguments Named t.Pattern t.Variant expression_step inline_step element_step arguments_step named_step pattern_step variant_step

abbrev pub attribute_view : of_attribute.Attribute → Text × t.Pattern
attribute_view a = (a.id.name.now, pattern_view a.value)

abbrev pub value_view : Option of_pattern.Pattern → Option t.Pattern
value_view None = None
value_view (Some p) = Some (pattern_view p)

abbrev pub message_view : of_message.Message → t.Entry
message_view m = message_entry m.id.name.now (value_view m.value) (map attribute_view m.attributes.items)

abbrev pub term_view : of_term.Term → t.Entry
term_view m = term_entry m.id.name.now (pattern_view m.value) (map attribute_view m.attributes.items)

abbrev pub entry_view : of_entry.Entry → t.Entry
entry_view (entries.Message m) = message_view m
entry_view (entries.Term m) = term_view m
entry_view (entries.Junk content) = junk_entry content.now

abbrev pub resource_view : of_resource.Resource → List t.Entry
resource_view r = map entry_view r.body.items

abbrev pub call_view : Option (Box of_call.CallArguments) → Call
call_view None = no_call
call_view (Some b) = call (arguments_view b.value)
