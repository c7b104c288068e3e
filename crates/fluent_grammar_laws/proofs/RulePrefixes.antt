-- Every rule of the grammar takes a prefix of its text.
use Rattle.std.proofs.Common.{ℕ, List, Bool, subst}
use Rattle.fluent_ast.specs.Tree.{select, variants_of}
use Rattle.fluent_text.specs.Parser.{run1, Parser, pure}
use Rattle.fluent_text.specs.Lexical.{is_digit, identifier, blank_inline, line_end, blank_block, blank}
use Rattle.fluent_syntax.specs.Pieces.{inline_text, block_text, block_placeable, pattern_element, pattern}
use Rattle.fluent_syntax.specs.Expressions.{digits, attribute_access, level, string_literal, number_literal, message_reference, function_reference, term_reference, inline_expression, named_argument, argument, argument_list, variant_key, variant, variant_list, selector, arrow, select_expression, variable_reference}
use Rattle.fluent_syntax.specs.Entries as n
use Rattle.fluent_syntax.specs.Entries.{attribute, entry}
use Rattle.fluent_syntax.specs.Chunks.{comment_line, junk_line, junk}
use Rattle.fluent_grammar_laws.specs.PrefixLaws.{TakesPrefix}
use Rattle.fluent_syntax.specs.Facts.Prefixes.{takes-run1, TakesTo, Takes, takes-bind, takes-then, takes-pure}
use Rattle.fluent_syntax.specs.Facts.LexicalPrefixes.{takes-attribute_access, takes-identifier, takes-blank_inline, takes-line_end, takes-blank, takes-blank_block, takes-string_literal, takes-number_literal, takes-variant_key, takes-arrow, takes-words_after, takes-block_text}
use Rattle.fluent_syntax.specs.Facts.Sound.{takes-sound, sound-provided, sound-bind, sound-pure}
use Rattle.fluent_syntax.specs.Facts.Trees.{Any, good, sound-variable, sound-message, sound-function, sound-term, sound-inline, sound-named, sound-argument, sound-list, sound-block, sound-element, sound-pattern, sound-variant, sound-variants, sound-braces, sound-brackets}
use Rattle.fluent_syntax.specs.Facts.Rules.{takes-attribute, takes-message, takes-term, takes-entry}
use Rattle.fluent_syntax.specs.Facts.Chunked.{takes-comment_line, takes-junk_line, takes-junk}

prefix_of : {A : Type 0} (p : Parser A) → Takes p → (s : List ℕ) → TakesPrefix p s
prefix_of p h s x after e = subst (TakesTo s) e (h.prefix s)

-- ---- rules that hold no other

pub identifier_prefix : (s : List ℕ) → TakesPrefix identifier s
identifier_prefix s = prefix_of identifier takes-identifier s

pub blank_inline_prefix : (s : List ℕ) → TakesPrefix blank_inline s
blank_inline_prefix s = prefix_of blank_inline takes-blank_inline s

pub line_end_prefix : (s : List ℕ) → TakesPrefix line_end s
line_end_prefix s = prefix_of line_end takes-line_end s

pub blank_block_prefix : (s : List ℕ) → TakesPrefix blank_block s
blank_block_prefix s = prefix_of blank_block takes-blank_block s

pub blank_prefix : (s : List ℕ) → TakesPrefix blank s
blank_prefix s = prefix_of blank takes-blank s

pub string_prefix : (s : List ℕ) → TakesPrefix string_literal s
string_prefix s = prefix_of string_literal takes-string_literal s

pub number_prefix : (s : List ℕ) → TakesPrefix number_literal s
number_prefix s = prefix_of number_literal takes-number_literal s

pub digits_prefix : (s : List ℕ) → TakesPrefix digits s
unfolding digits
digits_prefix s = prefix_of (run1 is_digit) (takes-run1 is_digit) s

pub attribute_access_prefix : (s : List ℕ) → TakesPrefix attribute_access s
attribute_access_prefix s = prefix_of attribute_access takes-attribute_access s

pub variable_prefix : (s : List ℕ) → TakesPrefix variable_reference s
variable_prefix s = prefix_of variable_reference (takes-sound _ variable_reference (sound-variable 0)) s

pub message_reference_prefix : (s : List ℕ) → TakesPrefix message_reference s
message_reference_prefix s = prefix_of message_reference (takes-sound _ message_reference (sound-message 0)) s

pub named_argument_prefix : (s : List ℕ) → TakesPrefix named_argument s
named_argument_prefix s = prefix_of named_argument (takes-sound _ named_argument sound-named) s

pub variant_key_prefix : (s : List ℕ) → TakesPrefix variant_key s
variant_key_prefix s = prefix_of variant_key takes-variant_key s

pub inline_text_prefix : (s : List ℕ) → TakesPrefix inline_text s
inline_text_prefix s = prefix_of inline_text (takes-words_after _) s

pub block_text_prefix : (s : List ℕ) → TakesPrefix block_text s
block_text_prefix s = prefix_of block_text takes-block_text s

-- ---- expressions, at a depth

pub function_prefix : (n : ℕ) (s : List ℕ) → TakesPrefix (function_reference (level n)) s
function_prefix n s = prefix_of (function_reference (level n)) (takes-sound _ (function_reference (level n)) (sound-function (level n) n (good n))) s

pub term_reference_prefix : (n : ℕ) (s : List ℕ) → TakesPrefix (term_reference (level n)) s
term_reference_prefix n s = prefix_of (term_reference (level n)) (takes-sound _ (term_reference (level n)) (sound-term (level n) n (good n))) s

takes-inline : (n : ℕ) → Takes (inline_expression (level n))
takes-inline n = takes-sound _ (inline_expression (level n)) (sound-inline (level n) n (good n))

pub inline_expression_prefix : (n : ℕ) (s : List ℕ) → TakesPrefix (inline_expression (level n)) s
inline_expression_prefix n s = prefix_of (inline_expression (level n)) (takes-inline n) s

pub argument_prefix : (n : ℕ) (s : List ℕ) → TakesPrefix (argument (level n)) s
argument_prefix n s = prefix_of (argument (level n)) (takes-sound _ (argument (level n)) (sound-argument (level n) n (good n))) s

pub argument_list_prefix : (n : ℕ) (s : List ℕ) → TakesPrefix (argument_list (level n)) s
argument_list_prefix n s = prefix_of (argument_list (level n)) (takes-sound _ (argument_list (level n)) (sound-list (level n) n (good n))) s

pub call_arguments_prefix : (n : ℕ) (s : List ℕ) → TakesPrefix (level n).brackets s
call_arguments_prefix n s = prefix_of (level n).brackets (takes-sound _ (level n).brackets (sound-brackets n)) s

pub variant_prefix : (n : ℕ) (default : Bool) (s : List ℕ) → TakesPrefix (variant (level n) default) s
variant_prefix n default s = prefix_of (variant (level n) default) (takes-sound _ (variant (level n) default) (sound-variant (level n) n default (good n))) s

takes-variants : (n : ℕ) → Takes (variant_list (level n))
takes-variants n = takes-sound _ (variant_list (level n)) (sound-variants (level n) n (good n))

pub variant_list_prefix : (n : ℕ) (s : List ℕ) → TakesPrefix (variant_list (level n)) s
variant_list_prefix n s = prefix_of (variant_list (level n)) (takes-variants n) s

takes-selector : (n : ℕ) → Takes (selector (level n))
takes-selector n = takes-sound Any (selector (level n)) (sound-bind _ Any (inline_expression (level n)) _ (sound-inline (level n) n (good n)) (λ x w. sound-provided Any _ (pure x) (λ ok. sound-pure Any x tt)))

pub select_prefix : (n : ℕ) (s : List ℕ) → TakesPrefix (select_expression (level n)) s
select_prefix n s =
    prefix_of (select_expression (level n)) (takes-bind (selector (level n)) _ (takes-selector n) (λ x. takes-then arrow _ takes-arrow (takes-bind (variant_list (level n)) _ (takes-variants n) (λ vs. takes-pure (select x (variants_of vs)))))) s

pub placeable_prefix : (n : ℕ) (s : List ℕ) → TakesPrefix (level n).braces s
placeable_prefix n s = prefix_of (level n).braces (takes-sound _ (level n).braces (sound-braces n)) s

-- ---- patterns and entries

pub block_placeable_prefix : (n : ℕ) (s : List ℕ) → TakesPrefix (block_placeable (level n).braces) s
block_placeable_prefix n s = prefix_of (block_placeable (level n).braces) (takes-sound _ (block_placeable (level n).braces) (sound-block (level n).braces n (sound-braces n))) s

pub pattern_element_prefix : (n : ℕ) (s : List ℕ) → TakesPrefix (pattern_element (level n).braces) s
pattern_element_prefix n s = prefix_of (pattern_element (level n).braces) (takes-sound _ (pattern_element (level n).braces) (sound-element (level n).braces n (sound-braces n))) s

pub pattern_prefix : (n : ℕ) (s : List ℕ) → TakesPrefix (pattern (level n).braces) s
pattern_prefix n s = prefix_of (pattern (level n).braces) (takes-sound _ (pattern (level n).braces) (sound-pattern (level n).braces n (sound-braces n))) s

pub attribute_prefix : (s : List ℕ) → TakesPrefix attribute s
attribute_prefix s = prefix_of attribute takes-attribute s

pub message_prefix : (s : List ℕ) → TakesPrefix n.message s
message_prefix s = prefix_of n.message takes-message s

pub term_prefix : (s : List ℕ) → TakesPrefix n.term s
term_prefix s = prefix_of n.term takes-term s

pub entry_prefix : (s : List ℕ) → TakesPrefix entry s
entry_prefix s = prefix_of entry takes-entry s

-- ---- comments and Junk

pub comment_prefix : (s : List ℕ) → TakesPrefix comment_line s
comment_prefix s = prefix_of comment_line takes-comment_line s

pub junk_line_prefix : (s : List ℕ) → TakesPrefix junk_line s
junk_line_prefix s = prefix_of junk_line takes-junk_line s

pub junk_prefix : (s : List ℕ) → TakesPrefix junk s
junk_prefix s = prefix_of junk takes-junk s

pub ruleset rule_prefixes = (identifier_prefix, blank_inline_prefix, line_end_prefix, blank_block_prefix, blank_prefix, string_prefix, number_prefix, digits_prefix, attribute_access_prefix, variable_prefix, message_reference_prefix, named_argument_prefix, variant_key_prefix, inline_text_prefix, block_text_prefix, function_prefix, term_reference_prefix, inline_expression_prefix, argument_prefix, argument_list_prefix, call_arguments_prefix, variant_prefix, variant_list_prefix, select_prefix, placeable_prefix, block_placeable_prefix, pattern_element_prefix, pattern_prefix, attribute_prefix, message_prefix, term_prefix, entry_prefix, comment_prefix, junk_line_prefix, junk_prefix)
