-- What the tree of a part depends on.
use Rattle.std.proofs.Common.{◌≡◌, ℕ, List, [], ◌∷◌, ◌++◌, length, Bool, None, sym, ap, ◌∙◌, subst, arith}
use Rattle.fluent_text.specs.Parser.{Parser}
use Rattle.fluent_text.specs.Lexical.{identifier, blank}
use Rattle.fluent_syntax.specs.Expressions.{literal, named_argument, message_reference, variant_head, variable_reference}
use Rattle.fluent_syntax.specs.Pieces.{inline_text}
use Rattle.fluent_syntax.specs.Entries.{name_of_value}
use Rattle.fluent_syntax.specs.Chunks.{Chunk, chunks, comment_line, junk}
use Rattle.fluent_grammar_laws.specs.ChunkLaws.{bytes_of}
use Rattle.fluent_grammar_laws.specs.PrefixLaws.{ReadByPrefix, ReadFromThereOn}
use Rattle.fluent_syntax.specs.Facts.Chunked.{chunks-none, chunks-next}
use Rattle.fluent_grammar_laws.proofs.ChunkLaws.{by_chunk, made_of_chunks}
use Rattle.fluent_grammar_laws.proofs.Near.{two_alike, Near, NearTo}
use Rattle.fluent_grammar_laws.proofs.NearRules.{near-identifier, near-variable_reference, near-message_reference, near-name_of_value, near-variant_head, near-words_after, near-blank, near-comment_line, near-junk}
use Rattle.fluent_grammar_laws.proofs.NearStrings.{near-literal, near-named_argument}

-- ---- chunks

tail_is : (c d : Chunk) (xs ys : List Chunk) → ◌≡◌ {A = List Chunk} (c ∷ xs) (d ∷ ys) → xs ≡ ys
tail_is c d xs ys e = ap tail e
  where
    tail : List Chunk → List Chunk
    tail [] = []
    tail (z ∷ zs) = zs

from_there : (s : List ℕ) (before after : List Chunk) → chunks s ≡ before ++ after → chunks (bytes_of after) ≡ after
from_there s [] after e = subst (λ cs. chunks (bytes_of cs) ≡ cs) e (ap chunks (made_of_chunks s))
from_there [] (c ∷ before) after e = absurd (omega (arith, ap length (sym chunks-none ∙ e)))
from_there (b ∷ s) (c ∷ before) after e = by_chunk _ (b ∷ s) (λ d rest g.
    from_there rest before after (tail_is d c (chunks rest) (before ++ after) (sym (chunks-next (b ∷ s) d rest (omega arith) g) ∙ e)))

pub read_from_there_on : (s : List ℕ) → ReadFromThereOn s
read_from_there_on s before after e = from_there s before after e

-- ---- rules

by_prefix : {A : Type 0} (p : Parser A) → Near p → (s : List ℕ) → ReadByPrefix p s
by_prefix p h s x after e = let (prefix, g, more) = subst (NearTo p s) e (h.near s) in (prefix, g, λ other same. more other (two_alike other after same))

-- names, and what stands before a value
pub identifier_by_prefix : (s : List ℕ) → ReadByPrefix identifier s
identifier_by_prefix s = by_prefix identifier near-identifier s

pub name_of_value_by_prefix : (s : List ℕ) → ReadByPrefix name_of_value s
name_of_value_by_prefix s = by_prefix name_of_value near-name_of_value s

pub variant_head_by_prefix : (default : Bool) (s : List ℕ) → ReadByPrefix (variant_head default) s
variant_head_by_prefix default s = by_prefix (variant_head default) (near-variant_head default) s

-- references and literals
pub variable_by_prefix : (s : List ℕ) → ReadByPrefix variable_reference s
variable_by_prefix s = by_prefix variable_reference near-variable_reference s

pub message_by_prefix : (s : List ℕ) → ReadByPrefix message_reference s
message_by_prefix s = by_prefix message_reference near-message_reference s

pub literal_by_prefix : (s : List ℕ) → ReadByPrefix literal s
literal_by_prefix s = by_prefix literal near-literal s

pub named_argument_by_prefix : (s : List ℕ) → ReadByPrefix named_argument s
named_argument_by_prefix s = by_prefix named_argument near-named_argument s

-- texts and blanks
pub text_by_prefix : (s : List ℕ) → ReadByPrefix inline_text s
text_by_prefix s = by_prefix inline_text (near-words_after None) s

pub blank_by_prefix : (s : List ℕ) → ReadByPrefix blank s
blank_by_prefix s = by_prefix blank near-blank s

-- comments and Junk
pub comment_by_prefix : (s : List ℕ) → ReadByPrefix comment_line s
comment_by_prefix s = by_prefix comment_line near-comment_line s

pub junk_by_prefix : (s : List ℕ) → ReadByPrefix junk s
junk_by_prefix s = by_prefix junk near-junk s

pub ruleset rules_by_prefix = (identifier_by_prefix, name_of_value_by_prefix, variant_head_by_prefix, variable_by_prefix, message_by_prefix, literal_by_prefix, named_argument_by_prefix, text_by_prefix, blank_by_prefix, comment_by_prefix, junk_by_prefix)
