use Rattle.std.proofs.Common.{◌≡◌, ◌-◌, ◌≤◌, ◌++◌, length}
use denote.Text.{Utf8}
use denote.Shadow.{shadow}
use Rattle.fluent_syntax.specs.Chunks.{chunks, entry_starts, starts_from}
use Rattle.fluent_syntax.proofs.parser.chunks.entry_starts.Given as goal

abbrev pub invariant-chunks : goal.invariant-chunks
invariant-chunks l = record {
  utf8 : shadow (Utf8 l.rest);
  within : length l.rest ≤ length l.source;
  starts : l.starts.items ++ starts_from (length l.source - length l.rest) (chunks l.rest) ≡ entry_starts l.source;
}

abbrev pub decreases-chunks : goal.decreases-chunks
decreases-chunks l = length l.rest
