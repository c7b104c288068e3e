-- The rules that hold no other take a prefix of the text.
use Rattle.std.proofs.Common.{◌==◌, ◌+◌, length, ℕ, [], true, false, Bool, Option, Some, None, refl}
use Rattle.std.specs.Prelude.{unwrap_or}
use Rattle.fluent_ast.specs.Tree.{no_attribute, attribute, name_key, number_key}
use Rattle.fluent_text.specs.Parser.{Parser, ◌>>=◌, ◌>>◌, pure, optional, ignore, skip, count, first, byte, run, run1}
use Rattle.fluent_text.specs.Lexical.{is_letter, is_space, is_identifier_byte, identifier, blank_inline, at_end, line_break, line_end, blank_line, blank_block, blank_turn, blank, is_text}
use Rattle.fluent_syntax.specs.Expressions.{quoted_turn, number_parts, string_literal, number_literal, attribute_access, comma, key_inside, variant_key, star, variant_head, arrow}
use Rattle.fluent_syntax.specs.Pieces.{follows, words_after, is_indented, indented_text, block_text, indent}
use Rattle.fluent_syntax.specs.Facts.Prefixes.{Takes, takes-bind, takes-pure, takes-then, takes-map, takes-ignore, takes-or, takes-skip, takes-count, takes-run, takes-run1, takes-byte, takes-test, takes-nothing, takes-source_of, takes-optional, takes-if}
use Rattle.fluent_syntax.specs.Facts.Literals.{takes-quoted_turn, takes-number_parts}

pub takes-identifier : Takes identifier
unfolding identifier
takes-identifier = takes-test (λ s. is_letter (first s)) (run is_identifier_byte) (λ s. None) (takes-run is_identifier_byte) takes-nothing

pub takes-blank_inline : Takes blank_inline
unfolding blank_inline
takes-blank_inline = takes-map length (run1 is_space) (takes-run1 is_space)

pub takes-line_break : Takes line_break
unfolding line_break
takes-line_break = takes-or (byte 13 >> byte 10) (byte 10) (takes-then (byte 13) (byte 10) (takes-byte 13) (takes-byte 10)) (takes-byte 10)

pub takes-at_end : Takes at_end
takes-at_end = takes-test (λ s. length s == 0) (pure tt) (λ s. None) (takes-pure tt) takes-nothing

pub takes-line_end : Takes line_end
unfolding line_end
takes-line_end = takes-or line_break at_end takes-line_break takes-at_end

takes-blank_turn : Takes blank_turn
unfolding blank_turn
takes-blank_turn = takes-or (ignore blank_inline) line_end (takes-ignore blank_inline takes-blank_inline) takes-line_end

pub takes-blank : Takes blank
unfolding blank
takes-blank = takes-then blank_turn (ignore (count blank_turn)) takes-blank_turn (takes-ignore (count blank_turn) (takes-count blank_turn takes-blank_turn))

pub takes-blanks : Takes (skip blank)
takes-blanks = takes-skip blank takes-blank

pub takes-string_literal : Takes string_literal
unfolding string_literal
takes-string_literal = takes-then (byte 34) _ (takes-byte 34) (takes-bind _ _ (takes-source_of (count quoted_turn) (takes-count quoted_turn takes-quoted_turn)) (λ t. takes-then (byte 34) (pure t) (takes-byte 34) (takes-pure t)))

pub takes-number_literal : Takes number_literal
unfolding number_literal
takes-number_literal = takes-source_of number_parts takes-number_parts

pub takes-attribute_access : Takes attribute_access
unfolding attribute_access
takes-attribute_access = takes-or _ (pure no_attribute) (takes-map attribute (byte 46 >> identifier) (takes-then (byte 46) identifier (takes-byte 46) takes-identifier)) (takes-pure no_attribute)

pub takes-comma : Takes comma
unfolding comma
takes-comma = takes-then (skip blank) _ takes-blanks (takes-then (byte 44) (skip blank) (takes-byte 44) takes-blanks)

takes-key_inside : Takes key_inside
unfolding key_inside
takes-key_inside = takes-or _ _ (takes-map number_key number_literal takes-number_literal) (takes-map name_key identifier takes-identifier)

pub takes-variant_key : Takes variant_key
unfolding variant_key
takes-variant_key = takes-then (byte 91) _ (takes-byte 91) (takes-then (skip blank) _ takes-blanks (takes-bind key_inside _ takes-key_inside (λ k. takes-then (skip blank) _ takes-blanks (takes-then (byte 93) (pure k) (takes-byte 93) (takes-pure k)))))

pub takes-star : (default : Bool) → Takes (star default)
takes-star true = takes-byte 42
takes-star false = takes-pure tt

pub takes-variant_head : (default : Bool) → Takes (variant_head default)
unfolding variant_head
takes-variant_head default =
    takes-then line_end _ takes-line_end (takes-then (skip blank) _ takes-blanks (takes-then (star default) _ (takes-star default) (takes-bind variant_key _ takes-variant_key
    (λ k. takes-then (skip blank_inline) (pure k) (takes-skip blank_inline takes-blank_inline) (takes-pure k)))))

pub takes-arrow : Takes arrow
unfolding arrow
takes-arrow = takes-then (skip blank) _ takes-blanks (takes-then (byte 45) _ (takes-byte 45) (takes-then (byte 62) (skip blank_inline) (takes-byte 62) (takes-skip blank_inline takes-blank_inline)))

-- ---- lines of a pattern

pub takes-spaces : Takes (skip blank_inline)
takes-spaces = takes-skip blank_inline takes-blank_inline

pub takes-blank_line : Takes blank_line
unfolding blank_line
takes-blank_line = takes-then (skip blank_inline) line_end takes-spaces takes-line_end

unfoldable pub more_lines : Parser ℕ
more_lines = count blank_line >>= (λ more. pure (more + 1))

pub takes-more_lines : Takes more_lines
unfolding more_lines
takes-more_lines = takes-bind (count blank_line) (λ more. pure (more + 1)) (takes-count blank_line takes-blank_line) (λ more. takes-pure (more + 1))

pub takes-blank_block : Takes blank_block
unfolding blank_block more_lines
takes-blank_block = takes-then blank_line more_lines takes-blank_line takes-more_lines

pub takes-words_after : (n : Option ℕ) → Takes (words_after n)
unfolding words_after
takes-words_after n = takes-bind (run1 is_text) _ (takes-run1 is_text) (λ u. takes-bind (λ s. Some (follows 10 s, s)) _ (record { prefix = λ s. ([], refl) }) (λ fed. takes-pure (record { indent = n; bytes = u; fed = fed })))

takes-indented_text : (n : ℕ) → Takes (indented_text n)
takes-indented_text n = takes-if is_indented (words_after (Some n)) (takes-words_after (Some n))

pub takes-block_text : Takes block_text
unfolding block_text
takes-block_text = takes-bind blank_block _ takes-blank_block (λ ends. takes-bind blank_inline _ takes-blank_inline (λ n. takes-bind (indented_text n) _ (takes-indented_text n) (λ w. takes-pure (ends, w))))

pub takes-indent : Takes indent
unfolding indent
takes-indent = takes-bind (optional blank_inline) _ (takes-optional blank_inline takes-blank_inline) (λ n. takes-pure (record { indent = Some (unwrap_or n 0); bytes = []; fed = false }))
