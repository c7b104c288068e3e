use Rattle.std.proofs.Common.{◌≡◌, map, string_bytes, take}
use Rattle.fluent_sources.specs.Files.{mark_lines}
use Rattle.fluent_sources.specs.Reading.{read_view}
use Rattle.fluent_sources.proofs.source.mark_lines.Given as goal

abbrev pub invariant-loop-source : goal.invariant-loop-source
invariant-loop-source l =
    string_bytes l.lines ≡ mark_lines (map read_view (take l.source-index l.sources))
