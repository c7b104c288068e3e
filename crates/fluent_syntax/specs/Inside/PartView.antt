-- The content of a chunk of the code.
use Rattle.fluent_ast.specs.View.{entry_view}
use Rattle.fluent_syntax.specs.Chunks as t
use Rattle.fluent_syntax.specs.Chunks.{entry_part, blank_part, junk_part}
use Rattle.fluent_syntax.specs.declared.parser.chunks.Part.{Part}
use Rattle.fluent_syntax.specs.declared.parser.chunks.Part.TheVariants.{Entry, Blank, Junk}
use Rattle.fluent_syntax.specs.declared.parser.chunks.Chunk.{Chunk}

abbrev pub part_view : Part → t.Part
part_view (Entry e) = entry_part (entry_view e)
part_view Blank = blank_part
part_view Junk = junk_part

abbrev pub chunk_view : Chunk → t.Chunk
chunk_view c = record { bytes = c.text.now; part = part_view c.part }
