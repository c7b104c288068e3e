-- Worked expressions.
use Rattle.std.proofs.Common.{◌≡◌, [], Some, None, true, false, refl}
use Rattle.std.specs.Prelude.{codes}
use Rattle.fluent_ast.specs.Tree.{no_attribute, attribute, name_key, number_key, nothing, more, text, placeable, inline, select, string, number, function, message, term, variable, nested, no_call, call, arguments, no_inlines, argument, no_nameds, named_argument, no_variants, variant}
use Rattle.fluent_text.specs.Parser as p
use Rattle.fluent_text.specs.Lexical as l
use Rattle.fluent_syntax.specs.Pieces as t
use Rattle.fluent_syntax.specs.Layout as y
use Rattle.fluent_syntax.specs.Expressions as e
use Rattle.fluent_syntax.specs.Expressions.{level}

-- a string literal, and what stands after the placeable
pub row_string : (level 100).braces (codes "{ \"x\" }}") ≡ Some (inline (string (codes "x")), codes "}")
unfolding p.many_from p.byte p.run1 e.hex_digit e.hex_digits e.escape e.quoted_turn e.string_literal e.digits e.number_parts e.number_literal e.literal e.attribute_access e.message_reference e.function_reference e.optional_call e.term_reference e.inline_expression e.named_argument e.argument e.comma e.argument_comma e.argument_list e.call_arguments e.key_inside e.variant_key e.variant_head e.variant e.variant_list e.arrow e.expression e.inline_placeable e.level l.identifier l.blank_inline l.line_break l.line_end l.blank_turn l.blank e.variable_reference t.words_after t.block_text t.indent t.block_placeable t.pattern_element t.pieces y.lines y.elements l.blank_line l.blank_block
row_string = refl

-- a string keeps its escapes as they stand, a surrogate too
pub row_surrogate : (level 100).braces (codes "{\"\\uD800\\U00007a\\\\\\\"\"}") ≡ Some (inline (string (codes "\\uD800\\U00007a\\\\\\\"")), [])
unfolding p.many_from p.byte p.run1 e.hex_digit e.hex_digits e.escape e.quoted_turn e.string_literal e.digits e.number_parts e.number_literal e.literal e.attribute_access e.message_reference e.function_reference e.optional_call e.term_reference e.inline_expression e.named_argument e.argument e.comma e.argument_comma e.argument_list e.call_arguments e.key_inside e.variant_key e.variant_head e.variant e.variant_list e.arrow e.expression e.inline_placeable e.level l.identifier l.blank_inline l.line_break l.line_end l.blank_turn l.blank e.variable_reference t.words_after t.block_text t.indent t.block_placeable t.pattern_element t.pieces y.lines y.elements l.blank_line l.blank_block
row_surrogate = refl

-- four hexadecimal digits at least
pub row_short_escape : (level 100).braces (codes "{\"\\u12g4\"}") ≡ None
unfolding p.many_from p.byte p.run1 e.hex_digit e.hex_digits e.escape e.quoted_turn e.string_literal e.digits e.number_parts e.number_literal e.literal e.attribute_access e.message_reference e.function_reference e.optional_call e.term_reference e.inline_expression e.named_argument e.argument e.comma e.argument_comma e.argument_list e.call_arguments e.key_inside e.variant_key e.variant_head e.variant e.variant_list e.arrow e.expression e.inline_placeable e.level l.identifier l.blank_inline l.line_break l.line_end l.blank_turn l.blank e.variable_reference t.words_after t.block_text t.indent t.block_placeable t.pattern_element t.pieces y.lines y.elements l.blank_line l.blank_block
row_short_escape = refl

-- a string ends before a line feed
pub row_string_line : (level 100).braces (codes "{\"x\n\"}") ≡ None
unfolding p.many_from p.byte p.run1 e.hex_digit e.hex_digits e.escape e.quoted_turn e.string_literal e.digits e.number_parts e.number_literal e.literal e.attribute_access e.message_reference e.function_reference e.optional_call e.term_reference e.inline_expression e.named_argument e.argument e.comma e.argument_comma e.argument_list e.call_arguments e.key_inside e.variant_key e.variant_head e.variant e.variant_list e.arrow e.expression e.inline_placeable e.level l.identifier l.blank_inline l.line_break l.line_end l.blank_turn l.blank e.variable_reference t.words_after t.block_text t.indent t.block_placeable t.pattern_element t.pieces y.lines y.elements l.blank_line l.blank_block
row_string_line = refl

-- a number literal as the source has it
pub row_number : (level 100).braces (codes "{ -007.50 }") ≡ Some (inline (number (codes "-007.50")), [])
unfolding p.many_from p.byte p.run1 e.hex_digit e.hex_digits e.escape e.quoted_turn e.string_literal e.digits e.number_parts e.number_literal e.literal e.attribute_access e.message_reference e.function_reference e.optional_call e.term_reference e.inline_expression e.named_argument e.argument e.comma e.argument_comma e.argument_list e.call_arguments e.key_inside e.variant_key e.variant_head e.variant e.variant_list e.arrow e.expression e.inline_placeable e.level l.identifier l.blank_inline l.line_break l.line_end l.blank_turn l.blank e.variable_reference t.words_after t.block_text t.indent t.block_placeable t.pattern_element t.pieces y.lines y.elements l.blank_line l.blank_block
row_number = refl

-- a point wants digits after it
pub row_number_point : (level 100).braces (codes "{ 7. }") ≡ None
unfolding p.many_from p.byte p.run1 e.hex_digit e.hex_digits e.escape e.quoted_turn e.string_literal e.digits e.number_parts e.number_literal e.literal e.attribute_access e.message_reference e.function_reference e.optional_call e.term_reference e.inline_expression e.named_argument e.argument e.comma e.argument_comma e.argument_list e.call_arguments e.key_inside e.variant_key e.variant_head e.variant e.variant_list e.arrow e.expression e.inline_placeable e.level l.identifier l.blank_inline l.line_break l.line_end l.blank_turn l.blank e.variable_reference t.words_after t.block_text t.indent t.block_placeable t.pattern_element t.pieces y.lines y.elements l.blank_line l.blank_block
row_number_point = refl

-- an attribute of a term is no expression of a placeable
pub row_term_attribute : (level 100).braces (codes "{ -t.b }") ≡ None
unfolding p.many_from p.byte p.run1 e.hex_digit e.hex_digits e.escape e.quoted_turn e.string_literal e.digits e.number_parts e.number_literal e.literal e.attribute_access e.message_reference e.function_reference e.optional_call e.term_reference e.inline_expression e.named_argument e.argument e.comma e.argument_comma e.argument_list e.call_arguments e.key_inside e.variant_key e.variant_head e.variant e.variant_list e.arrow e.expression e.inline_placeable e.level l.identifier l.blank_inline l.line_break l.line_end l.blank_turn l.blank e.variable_reference t.words_after t.block_text t.indent t.block_placeable t.pattern_element t.pieces y.lines y.elements l.blank_line l.blank_block
row_term_attribute = refl

-- a term with arguments
pub row_term : (level 100).braces (codes "{ -t(a: 1) }") ≡ Some (inline (term (codes "t") no_attribute (call (arguments no_inlines (named_argument (codes "a") (number (codes "1")) no_nameds)))), [])
unfolding p.many_from p.byte p.run1 e.hex_digit e.hex_digits e.escape e.quoted_turn e.string_literal e.digits e.number_parts e.number_literal e.literal e.attribute_access e.message_reference e.function_reference e.optional_call e.term_reference e.inline_expression e.named_argument e.argument e.comma e.argument_comma e.argument_list e.call_arguments e.key_inside e.variant_key e.variant_head e.variant e.variant_list e.arrow e.expression e.inline_placeable e.level l.identifier l.blank_inline l.line_break l.line_end l.blank_turn l.blank e.variable_reference t.words_after t.block_text t.indent t.block_placeable t.pattern_element t.pieces y.lines y.elements l.blank_line l.blank_block
row_term = refl

-- an attribute of a term may be an argument
pub row_term_argument : (level 100).braces (codes "{ F(-t.b) }") ≡ Some (inline (function (codes "F") (arguments (argument (term (codes "t") (attribute (codes "b")) no_call) no_inlines) no_nameds)), [])
unfolding p.many_from p.byte p.run1 e.hex_digit e.hex_digits e.escape e.quoted_turn e.string_literal e.digits e.number_parts e.number_literal e.literal e.attribute_access e.message_reference e.function_reference e.optional_call e.term_reference e.inline_expression e.named_argument e.argument e.comma e.argument_comma e.argument_list e.call_arguments e.key_inside e.variant_key e.variant_head e.variant e.variant_list e.arrow e.expression e.inline_placeable e.level l.identifier l.blank_inline l.line_break l.line_end l.blank_turn l.blank e.variable_reference t.words_after t.block_text t.indent t.block_placeable t.pattern_element t.pieces y.lines y.elements l.blank_line l.blank_block
row_term_argument = refl

-- the name of a function is in upper case
pub row_small_function : (level 100).braces (codes "{ f() }") ≡ None
unfolding p.many_from p.byte p.run1 e.hex_digit e.hex_digits e.escape e.quoted_turn e.string_literal e.digits e.number_parts e.number_literal e.literal e.attribute_access e.message_reference e.function_reference e.optional_call e.term_reference e.inline_expression e.named_argument e.argument e.comma e.argument_comma e.argument_list e.call_arguments e.key_inside e.variant_key e.variant_head e.variant e.variant_list e.arrow e.expression e.inline_placeable e.level l.identifier l.blank_inline l.line_break l.line_end l.blank_turn l.blank e.variable_reference t.words_after t.block_text t.indent t.block_placeable t.pattern_element t.pieces y.lines y.elements l.blank_line l.blank_block
row_small_function = refl

-- all of it
pub row_mixed_function : (level 100).braces (codes "{ Fun() }") ≡ None
unfolding p.many_from p.byte p.run1 e.hex_digit e.hex_digits e.escape e.quoted_turn e.string_literal e.digits e.number_parts e.number_literal e.literal e.attribute_access e.message_reference e.function_reference e.optional_call e.term_reference e.inline_expression e.named_argument e.argument e.comma e.argument_comma e.argument_list e.call_arguments e.key_inside e.variant_key e.variant_head e.variant e.variant_list e.arrow e.expression e.inline_placeable e.level l.identifier l.blank_inline l.line_break l.line_end l.blank_turn l.blank e.variable_reference t.words_after t.block_text t.indent t.block_placeable t.pattern_element t.pieces y.lines y.elements l.blank_line l.blank_block
row_mixed_function = refl

-- no argument, and blanks before the list
pub row_function : (level 100).braces (codes "{ FUN-1_A\n ( ) }") ≡ Some (inline (function (codes "FUN-1_A") (arguments no_inlines no_nameds)), [])
unfolding p.many_from p.byte p.run1 e.hex_digit e.hex_digits e.escape e.quoted_turn e.string_literal e.digits e.number_parts e.number_literal e.literal e.attribute_access e.message_reference e.function_reference e.optional_call e.term_reference e.inline_expression e.named_argument e.argument e.comma e.argument_comma e.argument_list e.call_arguments e.key_inside e.variant_key e.variant_head e.variant e.variant_list e.arrow e.expression e.inline_placeable e.level l.identifier l.blank_inline l.line_break l.line_end l.blank_turn l.blank e.variable_reference t.words_after t.block_text t.indent t.block_placeable t.pattern_element t.pieces y.lines y.elements l.blank_line l.blank_block
row_function = refl

-- arguments by place and by name, and a comma after the last
pub row_call : (level 100).braces (codes "{ F($a, m.at, { 7 }, n: \"3\",) }x") ≡ Some (inline (function (codes "F") (arguments (argument (variable (codes "a")) (argument (message (codes "m") (attribute (codes "at"))) (argument (nested (inline (number (codes "7")))) no_inlines))) (named_argument (codes "n") (string (codes "3")) no_nameds))), codes "x")
unfolding p.many_from p.byte p.run1 e.hex_digit e.hex_digits e.escape e.quoted_turn e.string_literal e.digits e.number_parts e.number_literal e.literal e.attribute_access e.message_reference e.function_reference e.optional_call e.term_reference e.inline_expression e.named_argument e.argument e.comma e.argument_comma e.argument_list e.call_arguments e.key_inside e.variant_key e.variant_head e.variant e.variant_list e.arrow e.expression e.inline_placeable e.level l.identifier l.blank_inline l.line_break l.line_end l.blank_turn l.blank e.variable_reference t.words_after t.block_text t.indent t.block_placeable t.pattern_element t.pieces y.lines y.elements l.blank_line l.blank_block
row_call = refl

-- no positional argument after a named one
pub row_positional_last : (level 100).braces (codes "{ F(a, b: 1, c) }") ≡ None
unfolding p.many_from p.byte p.run1 e.hex_digit e.hex_digits e.escape e.quoted_turn e.string_literal e.digits e.number_parts e.number_literal e.literal e.attribute_access e.message_reference e.function_reference e.optional_call e.term_reference e.inline_expression e.named_argument e.argument e.comma e.argument_comma e.argument_list e.call_arguments e.key_inside e.variant_key e.variant_head e.variant e.variant_list e.arrow e.expression e.inline_placeable e.level l.identifier l.blank_inline l.line_break l.line_end l.blank_turn l.blank e.variable_reference t.words_after t.block_text t.indent t.block_placeable t.pattern_element t.pieces y.lines y.elements l.blank_line l.blank_block
row_positional_last = refl

-- names of arguments differ
pub row_one_name : (level 100).braces (codes "{ F(a: 1, b: 2, a: 3) }") ≡ None
unfolding p.many_from p.byte p.run1 e.hex_digit e.hex_digits e.escape e.quoted_turn e.string_literal e.digits e.number_parts e.number_literal e.literal e.attribute_access e.message_reference e.function_reference e.optional_call e.term_reference e.inline_expression e.named_argument e.argument e.comma e.argument_comma e.argument_list e.call_arguments e.key_inside e.variant_key e.variant_head e.variant e.variant_list e.arrow e.expression e.inline_placeable e.level l.identifier l.blank_inline l.line_break l.line_end l.blank_turn l.blank e.variable_reference t.words_after t.block_text t.indent t.block_placeable t.pattern_element t.pieces y.lines y.elements l.blank_line l.blank_block
row_one_name = refl

-- the value of a named argument is a literal
pub row_named_variable : (level 100).braces (codes "{ F(a: $b) }") ≡ None
unfolding p.many_from p.byte p.run1 e.hex_digit e.hex_digits e.escape e.quoted_turn e.string_literal e.digits e.number_parts e.number_literal e.literal e.attribute_access e.message_reference e.function_reference e.optional_call e.term_reference e.inline_expression e.named_argument e.argument e.comma e.argument_comma e.argument_list e.call_arguments e.key_inside e.variant_key e.variant_head e.variant e.variant_list e.arrow e.expression e.inline_placeable e.level l.identifier l.blank_inline l.line_break l.line_end l.blank_turn l.blank e.variable_reference t.words_after t.block_text t.indent t.block_placeable t.pattern_element t.pieces y.lines y.elements l.blank_line l.blank_block
row_named_variable = refl

-- a select
pub row_select : (level 100).braces (codes "{ $a ->\n [c] x\n *[1.0] one {$a} \n }x") ≡ Some (select (variable (codes "a")) (variant (name_key (codes "c")) (more (text (codes "x")) nothing) false (variant (number_key (codes "1.0")) (more (text (codes "one ")) (more (placeable (inline (variable (codes "a")))) nothing)) true no_variants)), codes "x")
unfolding p.many_from p.byte p.run1 e.hex_digit e.hex_digits e.escape e.quoted_turn e.string_literal e.digits e.number_parts e.number_literal e.literal e.attribute_access e.message_reference e.function_reference e.optional_call e.term_reference e.inline_expression e.named_argument e.argument e.comma e.argument_comma e.argument_list e.call_arguments e.key_inside e.variant_key e.variant_head e.variant e.variant_list e.arrow e.expression e.inline_placeable e.level l.identifier l.blank_inline l.line_break l.line_end l.blank_turn l.blank e.variable_reference t.words_after t.block_text t.indent t.block_placeable t.pattern_element t.pieces y.lines y.elements l.blank_line l.blank_block
row_select = refl

-- a select over an attribute of a term
pub row_select_term : (level 100).braces (codes "{ -t.b ->\n *[c] x\n}") ≡ Some (select (term (codes "t") (attribute (codes "b")) no_call) (variant (name_key (codes "c")) (more (text (codes "x")) nothing) true no_variants), [])
unfolding p.many_from p.byte p.run1 e.hex_digit e.hex_digits e.escape e.quoted_turn e.string_literal e.digits e.number_parts e.number_literal e.literal e.attribute_access e.message_reference e.function_reference e.optional_call e.term_reference e.inline_expression e.named_argument e.argument e.comma e.argument_comma e.argument_list e.call_arguments e.key_inside e.variant_key e.variant_head e.variant e.variant_list e.arrow e.expression e.inline_placeable e.level l.identifier l.blank_inline l.line_break l.line_end l.blank_turn l.blank e.variable_reference t.words_after t.block_text t.indent t.block_placeable t.pattern_element t.pieces y.lines y.elements l.blank_line l.blank_block
row_select_term = refl

-- the value of a term selects nothing
pub row_select_value : (level 100).braces (codes "{ -t ->\n *[c] x\n}") ≡ None
unfolding p.many_from p.byte p.run1 e.hex_digit e.hex_digits e.escape e.quoted_turn e.string_literal e.digits e.number_parts e.number_literal e.literal e.attribute_access e.message_reference e.function_reference e.optional_call e.term_reference e.inline_expression e.named_argument e.argument e.comma e.argument_comma e.argument_list e.call_arguments e.key_inside e.variant_key e.variant_head e.variant e.variant_list e.arrow e.expression e.inline_placeable e.level l.identifier l.blank_inline l.line_break l.line_end l.blank_turn l.blank e.variable_reference t.words_after t.block_text t.indent t.block_placeable t.pattern_element t.pieces y.lines y.elements l.blank_line l.blank_block
row_select_value = refl

-- nor does a message
pub row_select_message : (level 100).braces (codes "{ m.a ->\n *[c] x\n}") ≡ None
unfolding p.many_from p.byte p.run1 e.hex_digit e.hex_digits e.escape e.quoted_turn e.string_literal e.digits e.number_parts e.number_literal e.literal e.attribute_access e.message_reference e.function_reference e.optional_call e.term_reference e.inline_expression e.named_argument e.argument e.comma e.argument_comma e.argument_list e.call_arguments e.key_inside e.variant_key e.variant_head e.variant e.variant_list e.arrow e.expression e.inline_placeable e.level l.identifier l.blank_inline l.line_break l.line_end l.blank_turn l.blank e.variable_reference t.words_after t.block_text t.indent t.block_placeable t.pattern_element t.pieces y.lines y.elements l.blank_line l.blank_block
row_select_message = refl

-- nor a placeable
pub row_select_nested : (level 100).braces (codes "{ {$a} ->\n *[c] x\n}") ≡ None
unfolding p.many_from p.byte p.run1 e.hex_digit e.hex_digits e.escape e.quoted_turn e.string_literal e.digits e.number_parts e.number_literal e.literal e.attribute_access e.message_reference e.function_reference e.optional_call e.term_reference e.inline_expression e.named_argument e.argument e.comma e.argument_comma e.argument_list e.call_arguments e.key_inside e.variant_key e.variant_head e.variant e.variant_list e.arrow e.expression e.inline_placeable e.level l.identifier l.blank_inline l.line_break l.line_end l.blank_turn l.blank e.variable_reference t.words_after t.block_text t.indent t.block_placeable t.pattern_element t.pieces y.lines y.elements l.blank_line l.blank_block
row_select_nested = refl

-- a select has a default
pub row_no_default : (level 100).braces (codes "{ $a ->\n [c] x\n}") ≡ None
unfolding p.many_from p.byte p.run1 e.hex_digit e.hex_digits e.escape e.quoted_turn e.string_literal e.digits e.number_parts e.number_literal e.literal e.attribute_access e.message_reference e.function_reference e.optional_call e.term_reference e.inline_expression e.named_argument e.argument e.comma e.argument_comma e.argument_list e.call_arguments e.key_inside e.variant_key e.variant_head e.variant e.variant_list e.arrow e.expression e.inline_placeable e.level l.identifier l.blank_inline l.line_break l.line_end l.blank_turn l.blank e.variable_reference t.words_after t.block_text t.indent t.block_placeable t.pattern_element t.pieces y.lines y.elements l.blank_line l.blank_block
row_no_default = refl

-- and no second one
pub row_two_defaults : (level 100).braces (codes "{ $a ->\n *[c] x\n *[d] y\n}") ≡ None
unfolding p.many_from p.byte p.run1 e.hex_digit e.hex_digits e.escape e.quoted_turn e.string_literal e.digits e.number_parts e.number_literal e.literal e.attribute_access e.message_reference e.function_reference e.optional_call e.term_reference e.inline_expression e.named_argument e.argument e.comma e.argument_comma e.argument_list e.call_arguments e.key_inside e.variant_key e.variant_head e.variant e.variant_list e.arrow e.expression e.inline_placeable e.level l.identifier l.blank_inline l.line_break l.line_end l.blank_turn l.blank e.variable_reference t.words_after t.block_text t.indent t.block_placeable t.pattern_element t.pieces y.lines y.elements l.blank_line l.blank_block
row_two_defaults = refl

-- arguments and placeables count together
pub row_depth_two : (level 2).braces (codes "{ F({ 7 }) }x") ≡ None
unfolding p.many_from p.byte p.run1 e.hex_digit e.hex_digits e.escape e.quoted_turn e.string_literal e.digits e.number_parts e.number_literal e.literal e.attribute_access e.message_reference e.function_reference e.optional_call e.term_reference e.inline_expression e.named_argument e.argument e.comma e.argument_comma e.argument_list e.call_arguments e.key_inside e.variant_key e.variant_head e.variant e.variant_list e.arrow e.expression e.inline_placeable e.level l.identifier l.blank_inline l.line_break l.line_end l.blank_turn l.blank e.variable_reference t.words_after t.block_text t.indent t.block_placeable t.pattern_element t.pieces y.lines y.elements l.blank_line l.blank_block
row_depth_two = refl

-- three of them in one another
pub row_depth_three : (level 3).braces (codes "{ F({ 7 }) }x") ≡ Some (inline (function (codes "F") (arguments (argument (nested (inline (number (codes "7")))) no_inlines) no_nameds)), codes "x")
unfolding p.many_from p.byte p.run1 e.hex_digit e.hex_digits e.escape e.quoted_turn e.string_literal e.digits e.number_parts e.number_literal e.literal e.attribute_access e.message_reference e.function_reference e.optional_call e.term_reference e.inline_expression e.named_argument e.argument e.comma e.argument_comma e.argument_list e.call_arguments e.key_inside e.variant_key e.variant_head e.variant e.variant_list e.arrow e.expression e.inline_placeable e.level l.identifier l.blank_inline l.line_break l.line_end l.blank_turn l.blank e.variable_reference t.words_after t.block_text t.indent t.block_placeable t.pattern_element t.pieces y.lines y.elements l.blank_line l.blank_block
row_depth_three = refl
