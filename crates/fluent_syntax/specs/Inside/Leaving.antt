-- What a chunk leaves in what was read so far.
use Rattle.std.specs.Prelude.{ℕ}
use Rattle.fluent_ast.specs.View.{entry_view}
use Rattle.fluent_syntax.specs.Chunks.{entry_of, junk_range}
use Rattle.fluent_syntax.specs.Parsed.{error_range}
use Rattle.fluent_syntax.specs.Inside.PartView.{chunk_view}
use Rattle.fluent_syntax.specs.Inside.Pushing.{Appends}
use Rattle.fluent_syntax.specs.declared.parser.chunks.Chunk.{Chunk}
use Rattle.fluent_syntax.specs.declared.parser.chunks.Found.{Found}

-- its entry, if it has one
abbrev pub LeavesEntry : Found → Found → Chunk → Type 0
LeavesEntry old new chunk = Appends entry_view old.body new.body (entry_of (chunk_view chunk))

-- its byte range, if it is Junk and begins at this offset
abbrev pub LeavesError : ℕ → Found → Found → Chunk → Type 0
LeavesError start old new chunk = Appends error_range old.errors new.errors (junk_range start (chunk_view chunk))
