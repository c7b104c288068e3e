-- A source is chunks, one after the other (Fluent Syntax 1.0, EBNF, "Resource" and "Junk").
use Rattle.std.specs.Prelude.{ℕ, zero, suc, ◌+◌, ◌-◌, ◌||◌, ◌==◌, Bool, if◌then◌else◌, List, [], ◌∷◌, ◌++◌, length, take, flat_map, Some, None}
use Rattle.fluent_ast.specs.Tree.{Text, Entry, junk_entry}
use Rattle.fluent_text.specs.Parser.{Read, Parser, ◌>>◌, ◌<$>◌, ◌<|>◌, pure, ignore, skip, count, first, byte, run}
use Rattle.fluent_text.specs.Lexical.{is_inside, is_letter, blank_block}
use Rattle.fluent_syntax.specs.Entries.{entry}

-- what is left of a line, with its line feed
unfoldable pub rest_of_line : Parser (Unit {0})
rest_of_line = run is_inside >> skip (byte 10)

-- comment_line ::= "#" and everything up to the next LF, with it, or to the end of the text. Comments are skipped, well formed or not.
unfoldable pub comment_line : Parser (Unit {0})
comment_line = byte 35 >> rest_of_line

-- an entry may begin with this byte: "#", "-" or a letter
abbrev pub may_begin_entry : ℕ → Bool
may_begin_entry c = (c == 35 || c == 45) || is_letter c

-- a line that goes on with Junk
unfoldable pub junk_line : Parser (Unit {0})
junk_line = λ s. if length s == 0 || may_begin_entry (first s) then None else rest_of_line s

-- Junk: the line where it begins, and the lines that go on with it
unfoldable pub junk : Parser (Unit {0})
junk = rest_of_line >> ignore (count junk_line)

-- what a chunk is
pub data Part : Type 0 where
  entry_part : Entry → Part
  -- a comment line, or blank lines
  blank_part : Part
  junk_part : Part

-- an entry, else a comment line, else blank lines, else Junk
unfoldable pub part : Parser Part
part =
    (entry_part <$> entry)
    <|> (comment_line >> pure blank_part)
    <|> (blank_block >> pure blank_part)
    <|> (junk >> pure junk_part)

-- a chunk: its bytes, and what they are
pub record Chunk : Type 0 where
  pub bytes : Text
  pub part : Part

-- what was taken of a text, where this is left of it
abbrev pub taken : Text → Text → Text
taken s rest = take (length s - length rest) s

abbrev pub with_bytes : Text → Read Part → Read Chunk
with_bytes s None = None
with_bytes s (Some p) = Some (record { bytes = taken s p.1; part = p.0 }, p.1)

abbrev pub chunk : Parser Chunk
chunk s = with_bytes s (part s)

abbrev pub followed_by : Read Chunk → (Text → List Chunk) → List Chunk
followed_by None more = []
followed_by (Some p) more = p.0 ∷ more p.1

-- The chunks of a text, of at most so many; they end where nothing is left.
unfoldable pub chunks_within : ℕ → Text → List Chunk
chunks_within zero s = []
chunks_within (suc n) [] = []
chunks_within (suc n) (c ∷ s) = followed_by (chunk (c ∷ s)) (chunks_within n)

-- the chunks of a source
abbrev pub chunks : Text → List Chunk
chunks s = chunks_within (length s) s

-- ---- what chunks leave

-- the entry that a part leaves in the tree, if it leaves one; Junk is kept with its bytes
abbrev pub part_entry : Text → Part → List Entry
part_entry u (entry_part e) = e ∷ []
part_entry u blank_part = []
part_entry u junk_part = junk_entry u ∷ []

abbrev pub entry_of : Chunk → List Entry
entry_of c = part_entry c.bytes c.part

abbrev pub entries_of : List Chunk → List Entry
entries_of cs = flat_map entry_of cs

-- the offset of the first byte and the offset after the last, of Junk alone
abbrev pub part_range : ℕ → ℕ → Part → List (ℕ × ℕ)
part_range start end junk_part = (start, end) ∷ []
part_range start end (entry_part e) = []
part_range start end blank_part = []

-- the byte range of a chunk that begins at an offset, if it is Junk
abbrev pub junk_range : ℕ → Chunk → List (ℕ × ℕ)
junk_range at c = part_range at (at + length c.bytes) c.part

-- the same of all chunks, of which the first begins at an offset
abbrev pub ranges_from : ℕ → List Chunk → List (ℕ × ℕ)
ranges_from at [] = []
ranges_from at (c ∷ cs) = junk_range at c ++ ranges_from (at + length c.bytes) cs

-- the offset of a part that begins there, if it leaves an entry in the tree
abbrev pub start_of_part : ℕ → Part → List ℕ
start_of_part at (entry_part e) = at ∷ []
start_of_part at blank_part = []
start_of_part at junk_part = at ∷ []

-- the same of all chunks, of which the first begins at an offset
abbrev pub starts_from : ℕ → List Chunk → List ℕ
starts_from at [] = []
starts_from at (c ∷ cs) = start_of_part at c.part ++ starts_from (at + length c.bytes) cs

-- the entries of a source in order: its messages, terms and Junks
abbrev pub entries : Text → List Entry
entries s = entries_of (chunks s)

-- the byte range of each Junk of a source in order
abbrev pub junk_ranges : Text → List (ℕ × ℕ)
junk_ranges s = ranges_from 0 (chunks s)

-- the offset at which each entry of a source begins, in order
abbrev pub entry_starts : Text → List ℕ
entry_starts s = starts_from 0 (chunks s)
