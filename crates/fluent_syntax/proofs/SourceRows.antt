-- Worked sources.
use Rattle.std.proofs.Common.{◌≡◌, List, [], ◌∷◌, Some, refl}
use Rattle.std.specs.Prelude.{codes}
use Rattle.fluent_ast.specs.Tree.{Text, Entry, message_entry, junk_entry, Element, text, placeable, inline, variable, pattern_of}
use Rattle.fluent_text.specs.Parser.{many_from, byte, run1}
use Rattle.fluent_text.specs.Lexical.{identifier, blank_inline, line_break, line_end, blank_line, blank_block, blank_turn, blank}
use Rattle.fluent_syntax.specs.Expressions.{variable_reference}
use Rattle.fluent_syntax.specs.Layout as y
use Rattle.fluent_syntax.specs.Pieces as t
use Rattle.fluent_syntax.specs.Expressions as e
use Rattle.fluent_syntax.specs.Entries as n
use Rattle.fluent_syntax.specs.Chunks.{rest_of_line, comment_line, junk_line, junk, part, chunks_within, entries, junk_ranges}

-- a message without attributes
abbrev message_of : Text → List Element → Entry
message_of id es = message_entry id (Some (pattern_of es)) []

row_text : entries (codes "hello-world = Hello, world!") ≡ message_of (codes "hello-world") (text (codes "Hello, world!") ∷ []) ∷ []
unfolding many_from byte run1 identifier blank_inline line_break line_end blank_line blank_block blank_turn blank variable_reference e.hex_digit e.hex_digits e.escape e.quoted_turn e.string_literal e.digits e.number_parts e.number_literal e.literal e.attribute_access e.message_reference e.function_reference e.optional_call e.term_reference e.inline_expression e.named_argument e.argument e.comma e.argument_comma e.argument_list e.call_arguments e.key_inside e.variant_key e.variant_head e.variant e.variant_list e.arrow e.expression e.inline_placeable e.level t.words_after t.block_text t.indent t.block_placeable t.pattern_element t.pieces y.lines y.elements n.value n.name_of_value n.attribute n.value_first n.attributes_alone n.message n.term n.entry rest_of_line comment_line junk_line junk part chunks_within
row_text = refl

row_variable : entries (codes "intro = Welcome, { $name }.") ≡ message_of (codes "intro") (text (codes "Welcome, ") ∷ placeable (inline (variable (codes "name"))) ∷ text (codes ".") ∷ []) ∷ []
unfolding many_from byte run1 identifier blank_inline line_break line_end blank_line blank_block blank_turn blank variable_reference e.hex_digit e.hex_digits e.escape e.quoted_turn e.string_literal e.digits e.number_parts e.number_literal e.literal e.attribute_access e.message_reference e.function_reference e.optional_call e.term_reference e.inline_expression e.named_argument e.argument e.comma e.argument_comma e.argument_list e.call_arguments e.key_inside e.variant_key e.variant_head e.variant e.variant_list e.arrow e.expression e.inline_placeable e.level t.words_after t.block_text t.indent t.block_placeable t.pattern_element t.pieces y.lines y.elements n.value n.name_of_value n.attribute n.value_first n.attributes_alone n.message n.term n.entry rest_of_line comment_line junk_line junk part chunks_within
row_variable = refl

-- two spaces at the end leave no text
row_spaces_at_end : entries (codes "a = { $n }  ") ≡ message_of (codes "a") (placeable (inline (variable (codes "n"))) ∷ []) ∷ []
unfolding many_from byte run1 identifier blank_inline line_break line_end blank_line blank_block blank_turn blank variable_reference e.hex_digit e.hex_digits e.escape e.quoted_turn e.string_literal e.digits e.number_parts e.number_literal e.literal e.attribute_access e.message_reference e.function_reference e.optional_call e.term_reference e.inline_expression e.named_argument e.argument e.comma e.argument_comma e.argument_list e.call_arguments e.key_inside e.variant_key e.variant_head e.variant e.variant_list e.arrow e.expression e.inline_placeable e.level t.words_after t.block_text t.indent t.block_placeable t.pattern_element t.pieces y.lines y.elements n.value n.name_of_value n.attribute n.value_first n.attributes_alone n.message n.term n.entry rest_of_line comment_line junk_line junk part chunks_within
row_spaces_at_end = refl

row_junk : entries (codes "a = 1\n\n# c\nb = { $x") ≡ message_of (codes "a") (text (codes "1") ∷ []) ∷ junk_entry (codes "b = { $x") ∷ []
unfolding many_from byte run1 identifier blank_inline line_break line_end blank_line blank_block blank_turn blank variable_reference e.hex_digit e.hex_digits e.escape e.quoted_turn e.string_literal e.digits e.number_parts e.number_literal e.literal e.attribute_access e.message_reference e.function_reference e.optional_call e.term_reference e.inline_expression e.named_argument e.argument e.comma e.argument_comma e.argument_list e.call_arguments e.key_inside e.variant_key e.variant_head e.variant e.variant_list e.arrow e.expression e.inline_placeable e.level t.words_after t.block_text t.indent t.block_placeable t.pattern_element t.pieces y.lines y.elements n.value n.name_of_value n.attribute n.value_first n.attributes_alone n.message n.term n.entry rest_of_line comment_line junk_line junk part chunks_within
row_junk = refl

row_junk_range : junk_ranges (codes "a = 1\n\n# c\nb = { $x") ≡ (11, 19) ∷ []
unfolding many_from byte run1 identifier blank_inline line_break line_end blank_line blank_block blank_turn blank variable_reference e.hex_digit e.hex_digits e.escape e.quoted_turn e.string_literal e.digits e.number_parts e.number_literal e.literal e.attribute_access e.message_reference e.function_reference e.optional_call e.term_reference e.inline_expression e.named_argument e.argument e.comma e.argument_comma e.argument_list e.call_arguments e.key_inside e.variant_key e.variant_head e.variant e.variant_list e.arrow e.expression e.inline_placeable e.level t.words_after t.block_text t.indent t.block_placeable t.pattern_element t.pieces y.lines y.elements n.value n.name_of_value n.attribute n.value_first n.attributes_alone n.message n.term n.entry rest_of_line comment_line junk_line junk part chunks_within
row_junk_range = refl
