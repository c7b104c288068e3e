use Rattle.std.proofs.Common.{map, take}
use Rattle.fluent_answers.specs.ArgumentView.{argument_view}
use Rattle.fluent_sources.specs.Reading.{AreRead}
use Rattle.fluent_c_check.specs.Checks.{reads_of}
use Rattle.fluent_c_check.proofs.found.sources_of.Given as goal

abbrev pub invariant-loop-record : goal.invariant-loop-record
invariant-loop-record l = AreRead (reads_of (map argument_view (take l.record-index l.records))) l.sources
