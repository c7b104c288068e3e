use Rattle.std.proofs.Common.{take}
use Rattle.fluent_sources.specs.Reading.{AreRead}
use Rattle.fluent_cli.specs.Files.{reads_of, unread_in}
use Rattle.fluent_cli.specs.Inside.Reading.{AddsUnread}
use Rattle.fluent_cli.proofs.reading.read_files.Given as goal

abbrev pub invariant-loop-file : goal.invariant-loop-file
invariant-loop-file l = record {
  read : AreRead (reads_of (take l.file-index l.files)) l.sources;
  unread : AddsUnread (unread_in (take l.file-index l.files)) l.fn.unread l.unread;
}
