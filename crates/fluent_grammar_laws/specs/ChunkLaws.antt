-- What holds of the chunks of every source.
use Rattle.std.specs.Prelude.{◌≡◌, ℕ, ◌<◌, ◌≤◌, List, [], ◌∷◌, length, flat_map, All}
use Rattle.fluent_ast.specs.Tree.{Text}
use Rattle.fluent_syntax.specs.Chunks.{Chunk, chunks, junk_ranges}

abbrev pub bytes_of : List Chunk → Text
bytes_of cs = flat_map (λ c. c.bytes) cs

-- the chunks' bytes, one after the other, are the source
abbrev pub MadeOfChunks : Text → Type 0
MadeOfChunks source = bytes_of (chunks source) ≡ source

-- each chunk has a byte
abbrev pub NoneEmpty : Text → Type 0
NoneEmpty source = All (λ c. 0 < length c.bytes) (chunks source)

-- ranges between two offsets: none is empty, and none begins before the one before it ends
abbrev pub InOrder : ℕ → ℕ → List (ℕ × ℕ) → Type 0
InOrder low high [] = low ≤ high
InOrder low high (r ∷ rs) = (low ≤ r.0) × (r.0 < r.1) × InOrder r.1 high rs

-- the ranges of Junk go up and stay within the source
abbrev pub RangesWithin : Text → Type 0
RangesWithin source = InOrder 0 (length source) (junk_ranges source)
