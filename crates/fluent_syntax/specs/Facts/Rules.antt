-- Entries take a prefix of the text, and a byte at least.
use Rattle.std.proofs.Common.{◌≡◌, ◌==◌, ℕ, ◌<◌, Bool, true, false, List, [], ◌∷◌, length, Some, None, if◌then◌else◌, refl, arith}
use Rattle.std.proofs.lemmas.Bool.Decides.{nat_tests}
use Rattle.fluent_text.specs.Parser.{◌>>=◌, ◌>>◌, ◌<|>◌, pure, skip, many, push, run_len, run, run1, byte, first}
use Rattle.fluent_ast.specs.Tree.{Text, message_entry, term_entry}
use Rattle.fluent_text.specs.Lexical.{is_identifier_byte, is_space, is_letter, identifier, blank_inline, at_end, line_break, line_end, blank_line, blank_block, blank}
use Rattle.fluent_syntax.specs.Pieces.{pattern}
use Rattle.fluent_syntax.specs.Expressions.{level}
use Rattle.fluent_syntax.specs.Entries as n
use Rattle.fluent_syntax.specs.Entries.{value, name_of_value, attribute, value_first, attributes_alone, entry}
use Rattle.fluent_syntax.specs.WellFormed.{IsWellFormedPattern}
use Rattle.fluent_syntax.specs.Facts.Prefixes.{Takes, takes-bind, takes-then, takes-or, takes-pure, takes-all, takes-byte, Lessens, Eats, eats-bind, eats-then, eats-map, eats-or, eats-skip, eats-byte, eats-run1, run_less}
use Rattle.fluent_syntax.specs.Facts.LexicalPrefixes.{takes-identifier, takes-line_end, takes-spaces, takes-blanks, more_lines, takes-more_lines}
use Rattle.fluent_syntax.specs.Facts.Sound.{takes-sound}
use Rattle.fluent_syntax.specs.Facts.Trees.{sound-braces, sound-pattern}

-- a run whose first byte passes isn't empty
run_starts : (c : ℕ → ℕ → Bool) (s : List ℕ) → 0 < length s → ((d : ℕ) → c (first s) d ≡ true) → 0 < run_len c s
run_starts c [] n h = absurd (omega arith)
run_starts c (b ∷ s) n h = rw (h (first s)) (omega arith)

letter_passes : (b d : ℕ) → is_letter b ≡ true → is_identifier_byte b d ≡ true
letter_passes b d h = grind (arith, nat_tests)

pub eats-identifier : Eats identifier
unfolding identifier
eats-identifier = record { less = λ s n. tested s n (is_letter (first s)) refl }
  where
    tested : (s : List ℕ) → 0 < length s → (v : Bool) → is_letter (first s) ≡ v → Lessens s (if v then run is_identifier_byte s else None)
    tested s n true e = run_less is_identifier_byte s (run_starts is_identifier_byte s n (λ d. letter_passes (first s) d e))
    tested s n false e = tt

eats-blank_inline : Eats blank_inline
unfolding blank_inline
eats-blank_inline = eats-map length (run1 is_space) (eats-run1 is_space)

eats-line_break : Eats line_break
unfolding line_break
eats-line_break = eats-or (byte 13 >> byte 10) (byte 10) (eats-then (byte 13) (byte 10) (eats-byte 13) (takes-byte 10)) (eats-byte 10)

eats-at_end : Eats at_end
eats-at_end = record { less = λ s n. tested s n (length s == 0) refl }
  where
    tested : (s : List ℕ) → 0 < length s → (v : Bool) → (length s == 0) ≡ v → Lessens s (if v then Some (tt {0}, s) else None)
    tested s n true e = absurd (grind (arith, nat_tests))
    tested s n false e = tt

pub eats-line_end : Eats line_end
unfolding line_end
eats-line_end = eats-or line_break at_end eats-line_break eats-at_end

eats-blank_line : Eats blank_line
unfolding blank_line
eats-blank_line = eats-skip blank_inline line_end eats-blank_inline eats-line_end takes-line_end

pub eats-blank_block : Eats blank_block
unfolding blank_block more_lines
eats-blank_block = eats-then blank_line more_lines eats-blank_line takes-more_lines

-- ---- entries

pub takes-value : Takes value
unfolding value
takes-value = takes-sound (λ p. IsWellFormedPattern p 100) (pattern (level 100).braces) (sound-pattern (level 100).braces 100 (sound-braces 100))

after_name : (id : Text) → Takes (skip blank_inline >> (byte 61 >> (skip blank_inline >> pure id)))
after_name id = takes-then (skip blank_inline) _ takes-spaces (takes-then (byte 61) _ (takes-byte 61) (takes-then (skip blank_inline) (pure id) takes-spaces (takes-pure id)))

pub takes-name_of_value : Takes name_of_value
unfolding name_of_value
takes-name_of_value = takes-bind identifier _ takes-identifier after_name

eats-name_of_value : Eats name_of_value
unfolding name_of_value
eats-name_of_value = eats-bind identifier _ eats-identifier after_name

pub takes-attribute : Takes attribute
unfolding attribute
takes-attribute = takes-then line_end _ takes-line_end (takes-then (skip blank) _ takes-blanks (takes-then (byte 46) _ (takes-byte 46) (takes-bind name_of_value _ takes-name_of_value (λ id. takes-bind value _ takes-value (λ v. takes-pure (id, v))))))

takes-attributes : Takes (many attribute)
takes-attributes = takes-all push attribute [] takes-attribute

takes-value_first : Takes value_first
unfolding value_first
takes-value_first = takes-bind value _ takes-value (λ v. takes-bind (many attribute) _ takes-attributes (λ others. takes-pure (Some v, others)))

takes-attributes_alone : Takes attributes_alone
unfolding attributes_alone
takes-attributes_alone = takes-bind attribute _ takes-attribute (λ a. takes-bind _ _ (takes-all push attribute (a ∷ []) takes-attribute) (λ others. takes-pure (None, others)))

after_message : (id : Text) → Takes ((value_first <|> attributes_alone) >>= (λ c. pure (message_entry id c.0 c.1)))
after_message id = takes-bind (value_first <|> attributes_alone) _ (takes-or value_first attributes_alone takes-value_first takes-attributes_alone) (λ c. takes-pure (message_entry id c.0 c.1))

pub takes-message : Takes n.message
unfolding n.message
takes-message = takes-bind name_of_value _ takes-name_of_value after_message

eats-message : Eats n.message
unfolding n.message
eats-message = eats-bind name_of_value _ eats-name_of_value after_message

after_term : (id : Text) → Takes (value >>= (λ v. many attribute >>= (λ others. pure (term_entry id v others))))
after_term id = takes-bind value _ takes-value (λ v. takes-bind (many attribute) _ takes-attributes (λ others. takes-pure (term_entry id v others)))

takes-term_rest : Takes (name_of_value >>= (λ id. value >>= (λ v. many attribute >>= (λ others. pure (term_entry id v others)))))
takes-term_rest = takes-bind name_of_value _ takes-name_of_value after_term

pub takes-term : Takes n.term
unfolding n.term
takes-term = takes-then (byte 45) _ (takes-byte 45) takes-term_rest

eats-term : Eats n.term
unfolding n.term
eats-term = eats-then (byte 45) _ (eats-byte 45) takes-term_rest

pub takes-entry : Takes entry
unfolding entry
takes-entry = takes-bind (n.message <|> n.term) _ (takes-or n.message n.term takes-message takes-term) (λ e. takes-then line_end (pure e) takes-line_end (takes-pure e))

pub eats-entry : Eats entry
unfolding entry
eats-entry = eats-bind (n.message <|> n.term) _ (eats-or n.message n.term eats-message eats-term) (λ e. takes-then line_end (pure e) takes-line_end (takes-pure e))
