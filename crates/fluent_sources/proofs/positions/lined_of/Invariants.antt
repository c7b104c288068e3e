use Rattle.std.proofs.Common.{◌≡◌, map, take}
use Rattle.fluent_sources.specs.Lined.{lined_views}
use Rattle.fluent_sources.specs.Reading.{read_view}
use Rattle.fluent_sources.proofs.positions.lined_of.Given as goal

abbrev pub invariant-loop-source : goal.invariant-loop-source
invariant-loop-source l = lined_views l.list.items ≡ map read_view (take l.source-index l.sources)
