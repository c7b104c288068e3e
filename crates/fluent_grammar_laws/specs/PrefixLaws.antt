-- What the tree of a part depends on.
use Rattle.std.specs.Prelude.{◌≡◌, ◌==◌, ◌&&◌, ◌||◌, ℕ, Bool, true, not, List, ◌∷◌, ◌++◌, take, drop, Some, if◌then◌else◌}
use Rattle.fluent_ast.specs.Tree.{Text, Entry}
use Rattle.fluent_text.specs.Parser.{Parser, ◌>>=◌, ◌>>◌, ◌<|>◌, pure, count, run_len, first}
use Rattle.fluent_text.specs.Lexical.{is_space, line_break, blank_line}
use Rattle.fluent_syntax.specs.Entries.{message, term, entry}
use Rattle.fluent_syntax.specs.Expressions.{Level, level}
use Rattle.fluent_syntax.specs.Chunks.{Chunk, chunks}
use Rattle.fluent_grammar_laws.specs.ChunkLaws.{bytes_of}

-- What a rule leaves of a text is its end: the rule takes a prefix.
abbrev pub TakesPrefix : {A : Type 0} → Parser A → Text → Type 0
TakesPrefix {A = A} rule s = (x : A) (past : Text) → rule s ≡ Some (x, past) → (prefix : Text) × (s ≡ prefix ++ past)

-- The same of a rule in which placeables and argument lists may stand, to whatever depth.
abbrev pub TakesPrefixAtAnyDepth : {A : Type 0} → (Level → Parser A) → Text → Type 0
TakesPrefixAtAnyDepth rule s = (depth : ℕ) → TakesPrefix (rule (level depth)) s

-- What a rule reads at the start of a text is a prefix of it; and it reads the same, and leaves what follows, wherever
-- that prefix is followed by the same two bytes (by the end of the text, where fewer follow).
abbrev pub ReadByPrefix : {A : Type 0} → Parser A → Text → Type 0
ReadByPrefix {A = A} rule s = (x : A) (past : Text) → rule s ≡ Some (x, past)
    → (prefix : Text) × (s ≡ prefix ++ past) × ((other : Text) → take 2 other ≡ take 2 past → rule (prefix ++ other) ≡ Some (x, other))

-- The same of a rule that ends by itself: what it reads depends on the prefix that it takes alone, whatever follows.
abbrev pub ReadByPrefixAlone : {A : Type 0} → Parser A → Text → Type 0
ReadByPrefixAlone {A = A} rule s = (x : A) (past : Text) → rule s ≡ Some (x, past)
    → (prefix : Text) × (s ≡ prefix ++ past) × ((other : Text) → rule (prefix ++ other) ≡ Some (x, other))

-- ---- parts that end with a line

-- what stands after the spaces at the start of a line
abbrev pub after_spaces : Text → Text
after_spaces line = drop (run_len is_space line) line

-- after spaces, a byte with which no pattern goes on: `[`, `*`, `.` or `}`
abbrev pub ends_indented : ℕ → Bool
ends_indented c = (c == 125 || c == 91) || (c == 42 || c == 46)

-- at the start of its line, such a byte: any but `{` and those that may begin a line end, or none
abbrev pub ends_flush : ℕ → Bool
ends_flush c = (not (c == 10) && not (c == 13)) && not (c == 123)

-- no pattern goes on with this line
abbrev pub no_pattern : Text → Bool
no_pattern line = if first line == 32 then ends_indented (first (after_spaces line)) else ends_flush (first line)

-- nor does an attribute begin there, which a point would
abbrev pub nothing_more : Text → Bool
nothing_more line = no_pattern line && not (first (after_spaces line) == 46)

-- a line break and the blank lines after it
unfoldable pub line_breaks : Parser ℕ
line_breaks = line_break >> count blank_line

-- a line break, blank lines, and a line that passes a test or the end of the text
abbrev pub EndsBy : (Text → Bool) → Text → Type 0
EndsBy test past = (k : ℕ) × (line : Text) × (line_breaks past ≡ Some (k, line)) × (test line ≡ true)

-- With this after them patterns end, also those of attributes;
abbrev pub EndsPattern : Text → Type 0
EndsPattern past = EndsBy no_pattern past

-- messages and terms, with their attributes;
abbrev pub EndsMessage : Text → Type 0
EndsMessage past = EndsBy nothing_more past

-- and entries, which take the first line break.
abbrev pub EndsEntry : Text → Type 0
EndsEntry past = EndsMessage (10 ∷ past)

-- What a rule reads depends on the prefix that it takes alone, as long as what stands after it ends it, and with the same
-- line break: whether a line feed follows a text at once is noted while a pattern is read.
abbrev pub ReadBefore : {A : Type 0} → (Text → Type 0) → Parser A → Text → Type 0
ReadBefore {A = A} ends rule s = (x : A) (past : Text) → rule s ≡ Some (x, past) → ends past
    → (prefix : Text) × (s ≡ prefix ++ past) × ((other : Text) → ends other → first other ≡ first past → rule (prefix ++ other) ≡ Some (x, other))

-- an entry with its line break
unfoldable pub entry_line : Parser Entry
entry_line = do
  e ← (message <|> term)
  line_break
  pure e

-- An entry that is read with its line break is read the same before all that ends it, the end of the text too.
abbrev pub EntryReadBefore : Text → Type 0
EntryReadBefore s = (e : Entry) (past : Text) → entry_line s ≡ Some (e, past) → EndsEntry past
    → (prefix : Text) × (s ≡ prefix ++ past) × ((other : Text) → EndsEntry other → entry (prefix ++ other) ≡ Some (e, other))

-- Chunks after other chunks are the chunks of their own bytes: nothing of them depends on what stands before.
abbrev pub ReadFromThereOn : Text → Type 0
ReadFromThereOn source = (before after : List Chunk) → chunks source ≡ before ++ after → chunks (bytes_of after) ≡ after
