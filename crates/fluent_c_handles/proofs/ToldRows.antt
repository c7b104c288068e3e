-- The rows hold.
use Rattle.std.proofs.Common.{refl}
use Rattle.std.specs.Fmt.{digits}
use Rattle.fluent_text.specs.Parser.{many_from, byte, run1}
use Rattle.fluent_text.specs.Lexical.{identifier, blank_inline, line_break, line_end, blank_line, blank_block, blank_turn, blank}
use Rattle.fluent_syntax.specs.Expressions.{variable_reference}
use Rattle.fluent_syntax.specs.Layout as y
use Rattle.fluent_syntax.specs.Pieces as t
use Rattle.fluent_syntax.specs.Expressions as e
use Rattle.fluent_syntax.specs.Entries as n
use Rattle.fluent_syntax.specs.Chunks.{rest_of_line, comment_line, junk_line, junk, part, chunks_within}
use Rattle.fluent_c_handles.specs.Rows.{Rows}

rows : Rows
unfolding digits many_from byte run1 identifier blank_inline line_break line_end blank_line blank_block blank_turn blank variable_reference e.hex_digit e.hex_digits e.escape e.quoted_turn e.string_literal e.digits e.number_parts e.number_literal e.literal e.attribute_access e.message_reference e.function_reference e.optional_call e.term_reference e.inline_expression e.named_argument e.argument e.comma e.argument_comma e.argument_list e.call_arguments e.key_inside e.variant_key e.variant_head e.variant e.variant_list e.arrow e.expression e.inline_placeable e.level t.words_after t.block_text t.indent t.block_placeable t.pattern_element t.pieces y.lines y.elements n.value n.name_of_value n.attribute n.value_first n.attributes_alone n.message n.term n.entry rest_of_line comment_line junk_line junk part chunks_within
rows = record { first_line = refl; second_line = refl; line_feed = refl; told = refl; no_line = refl; overriding = refl; nothing_overriding = refl }
