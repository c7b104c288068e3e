use Rattle.std.proofs.Common.{◌≡◌, ◌-◌, ◌≤◌, ◌++◌, length}
use denote.Text.{Utf8}
use denote.Shadow.{shadow}
use Rattle.fluent_syntax.specs.Chunks.{chunks, entries, entries_of, junk_ranges, ranges_from}
use Rattle.fluent_syntax.specs.Parsed.{error_range}
use Rattle.fluent_syntax.specs.Inside.Reading.{all}
use Rattle.fluent_ast.specs.View.{entry_view}
use Rattle.fluent_syntax.proofs.parser.chunks.read_chunks.Given as goal

abbrev pub invariant-chunks : goal.invariant-chunks
invariant-chunks l = record {
  utf8 : shadow (Utf8 l.rest);
  within : length l.rest ≤ length l.source;
  entries : all entry_view l.found.body ++ entries_of (chunks l.rest) ≡ entries l.source;
  errors : all error_range l.found.errors ++ ranges_from (length l.source - length l.rest) (chunks l.rest) ≡ junk_ranges l.source;
}

abbrev pub decreases-chunks : goal.decreases-chunks
decreases-chunks l = length l.rest
