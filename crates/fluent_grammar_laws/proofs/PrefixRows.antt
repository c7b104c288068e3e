-- An entry looks on: its prefix and the two bytes after it don't say what is read. Its prefix alone does, before what ends it.
use Rattle.std.proofs.Common.{◌≡◌, ℕ, true, List, [], ◌∷◌, ◌++◌, length, Some, None, refl, sym, ap, ◌∙◌, append_assoc, arith}
use Rattle.std.specs.Prelude.{codes}
use Rattle.fluent_ast.specs.Tree.{Text, Entry, message_entry, Element, text, placeable, inline, message, no_attribute, pattern_of}
use Rattle.fluent_grammar_laws.specs.PrefixLaws.{ReadByPrefix, EndsEntry, nothing_more, line_breaks, entry_line}
use Rattle.fluent_grammar_laws.specs.ReadLaws.{TreeOfPrefix}
use Rattle.fluent_grammar_laws.proofs.Known.{lefts}
use Rattle.fluent_grammar_laws.proofs.Leads.{true_false}
use Rattle.fluent_grammar_laws.proofs.KnownEntries.{entry_before}
use Rattle.std.proofs.lemmas.List.{append_cancel_right}
use Rattle.fluent_text.specs.Parser.{Read, many_from, byte, run1}
use Rattle.fluent_text.specs.Lexical.{identifier, blank_inline, line_break, line_end, blank_line, blank_block, blank_turn, blank}
use Rattle.fluent_syntax.specs.Expressions.{variable_reference}
use Rattle.fluent_syntax.specs.Layout as y
use Rattle.fluent_syntax.specs.Pieces as t
use Rattle.fluent_syntax.specs.Expressions as e
use Rattle.fluent_syntax.specs.Entries as n
use Rattle.fluent_syntax.specs.Chunks.{rest_of_line, comment_line, junk_line, junk, entry_part, junk_part, part, chunks_within}

-- a message without attributes
abbrev message_of : Text → List Element → Entry
message_of id es = message_entry id (Some (pattern_of es)) []

-- a brace that stays open is none of the message
ends_before : n.entry (codes "a = b\n {c") ≡ Some (message_of (codes "a") (text (codes "b") ∷ []), codes " {c")
unfolding many_from byte run1 identifier blank_inline line_break line_end blank_line blank_block blank_turn blank variable_reference e.hex_digit e.hex_digits e.escape e.quoted_turn e.string_literal e.digits e.number_parts e.number_literal e.literal e.attribute_access e.message_reference e.function_reference e.optional_call e.term_reference e.inline_expression e.named_argument e.argument e.comma e.argument_comma e.argument_list e.call_arguments e.key_inside e.variant_key e.variant_head e.variant e.variant_list e.arrow e.expression e.inline_placeable e.level t.words_after t.block_text t.indent t.block_placeable t.pattern_element t.pieces y.lines y.elements n.value n.name_of_value n.attribute n.value_first n.attributes_alone n.message n.term n.entry rest_of_line comment_line junk_line junk part chunks_within
ends_before = refl

-- closed, it is
goes_on : n.entry (codes "a = b\n {c}") ≡ Some (message_of (codes "a") (text (codes "b\n") ∷ placeable (inline (message (codes "c") no_attribute)) ∷ []), [])
unfolding many_from byte run1 identifier blank_inline line_break line_end blank_line blank_block blank_turn blank variable_reference e.hex_digit e.hex_digits e.escape e.quoted_turn e.string_literal e.digits e.number_parts e.number_literal e.literal e.attribute_access e.message_reference e.function_reference e.optional_call e.term_reference e.inline_expression e.named_argument e.argument e.comma e.argument_comma e.argument_list e.call_arguments e.key_inside e.variant_key e.variant_head e.variant e.variant_list e.arrow e.expression e.inline_placeable e.level t.words_after t.block_text t.indent t.block_placeable t.pattern_element t.pieces y.lines y.elements n.value n.name_of_value n.attribute n.value_first n.attributes_alone n.message n.term n.entry rest_of_line comment_line junk_line junk part chunks_within
goes_on = refl

abbrev left : Read Entry → ℕ
left None = 0
left (Some p) = length p.1

entry_looks_on : ReadByPrefix n.entry (codes "a = b\n {c") → ⊥
entry_looks_on h =
    let (prefix, e, more) = h (message_of (codes "a") (text (codes "b") ∷ [])) (codes " {c") ends_before in
    let whole : prefix ++ codes " {c}" ≡ codes "a = b\n {c}" = sym (append_assoc prefix (codes " {c") (codes "}")) ∙ ap (λ w. w ++ codes "}") (sym e) in
    let k : 4 ≡ 0 = ap left (sym (more (codes " {c}") refl) ∙ (ap n.entry whole ∙ goes_on)) in
    absurd (omega (arith, k))

-- ---- what ends an entry

abbrev Ends : Text → Type 0
Ends after = EndsEntry after

-- the next entry, a comment after blank lines, Junk, and the end of the text
before_next : Ends (codes "c = d")
unfolding many_from byte run1 blank_inline line_break line_end blank_line line_breaks
before_next = (0, codes "c = d", refl, refl)

before_comment : Ends (codes "  \n# d")
unfolding many_from byte run1 blank_inline line_break line_end blank_line line_breaks
before_comment = (1, codes "# d", refl, refl)

before_junk : Ends (codes "  }")
unfolding many_from byte run1 blank_inline line_break line_end blank_line line_breaks
before_junk = (0, codes "  }", refl, refl)

before_nothing : Ends []
unfolding many_from byte run1 blank_inline line_break line_end blank_line line_breaks
before_nothing = (0, [], refl, refl)

-- a brace doesn't, on whichever line it is
brace_ends_none : Ends (codes " {c}") → ⊥
unfolding many_from byte run1 blank_inline line_break line_end blank_line line_breaks
brace_ends_none h = true_false (nothing_more h.1) h.3 (ap nothing_more (sym (lefts 0 h.0 (codes " {c}") h.1 h.2)))

before_entry : entry_line (codes "a = b\nc = d") ≡ Some (message_of (codes "a") (text (codes "b") ∷ []), codes "c = d")
unfolding many_from byte run1 identifier blank_inline line_break line_end blank_line blank_block blank_turn blank variable_reference e.hex_digit e.hex_digits e.escape e.quoted_turn e.string_literal e.digits e.number_parts e.number_literal e.literal e.attribute_access e.message_reference e.function_reference e.optional_call e.term_reference e.inline_expression e.named_argument e.argument e.comma e.argument_comma e.argument_list e.call_arguments e.key_inside e.variant_key e.variant_head e.variant e.variant_list e.arrow e.expression e.inline_placeable e.level t.words_after t.block_text t.indent t.block_placeable t.pattern_element t.pieces y.lines y.elements n.value n.name_of_value n.attribute n.value_first n.attributes_alone n.message n.term entry_line
before_entry = refl

-- so the line is that message before all that ends it
alone : (other : Text) → Ends other → n.entry (codes "a = b\n" ++ other) ≡ Some (message_of (codes "a") (text (codes "b") ∷ []), other)
alone other h =
    let (prefix, e, more) = entry_before (codes "a = b\nc = d") (message_of (codes "a") (text (codes "b") ∷ [])) (codes "c = d") before_entry before_next in
    let same : codes "a = b\n" ≡ prefix = append_cancel_right (codes "a = b\n") prefix (codes "c = d") e in
    ap (λ u. n.entry (u ++ other)) same ∙ more other h

-- ---- what is no part of a tree

-- A text notes that a line feed follows it. So of the text with its note the law doesn't hold: `a` before a line feed and at the end.
text_notes : TreeOfPrefix t.inline_text → ⊥
unfolding run1 t.words_after
text_notes h = true_false true refl (ap (λ w. w.fed) (h (codes "a") (codes "\n") [] _ _ refl refl))

-- ---- a chunk's bytes by themselves

-- what is Junk before an entry that fails further on
junk_before : part (codes "a = b\n {\nc}x}") ≡ Some (junk_part, codes "c}x}")
unfolding many_from byte run1 identifier blank_inline line_break line_end blank_line blank_block blank_turn blank variable_reference e.hex_digit e.hex_digits e.escape e.quoted_turn e.string_literal e.digits e.number_parts e.number_literal e.literal e.attribute_access e.message_reference e.function_reference e.optional_call e.term_reference e.inline_expression e.named_argument e.argument e.comma e.argument_comma e.argument_list e.call_arguments e.key_inside e.variant_key e.variant_head e.variant e.variant_list e.arrow e.expression e.inline_placeable e.level t.words_after t.block_text t.indent t.block_placeable t.pattern_element t.pieces y.lines y.elements n.value n.name_of_value n.attribute n.value_first n.attributes_alone n.message n.term n.entry rest_of_line comment_line junk_line junk part chunks_within
junk_before = refl

-- is an entry and Junk by itself
entry_alone : part (codes "a = b\n {\n") ≡ Some (entry_part (message_of (codes "a") (text (codes "b") ∷ [])), codes " {\n")
unfolding many_from byte run1 identifier blank_inline line_break line_end blank_line blank_block blank_turn blank variable_reference e.hex_digit e.hex_digits e.escape e.quoted_turn e.string_literal e.digits e.number_parts e.number_literal e.literal e.attribute_access e.message_reference e.function_reference e.optional_call e.term_reference e.inline_expression e.named_argument e.argument e.comma e.argument_comma e.argument_list e.call_arguments e.key_inside e.variant_key e.variant_head e.variant e.variant_list e.arrow e.expression e.inline_placeable e.level t.words_after t.block_text t.indent t.block_placeable t.pattern_element t.pieces y.lines y.elements n.value n.name_of_value n.attribute n.value_first n.attributes_alone n.message n.term n.entry rest_of_line comment_line junk_line junk part chunks_within
entry_alone = refl
