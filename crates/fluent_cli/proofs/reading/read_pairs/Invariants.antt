use Rattle.std.proofs.Common.{◌≡◌, ◌++◌, List}
use Rattle.std.specs.Iterator.Adapters.{zip_first, zip_second}
use Rattle.std.specs.List.{zip}
use Rattle.std.specs.Slice.Iter.{iter_rest}
use Rattle.fluent_cli_report.specs.Unread.{unread_views}
use Rattle.fluent_cli.specs.Files.{pairs, readable_pairs, unread_pairs}
use Rattle.fluent_cli.specs.Inside.Reading.{AreReadPairs}
use Rattle.fluent_cli.specs.declared.reading.File.{File}
use Rattle.fluent_cli.proofs.reading.read_pairs.Given as goal

-- these were read, and those are left
abbrev pub invariant-loop-file : goal.invariant-loop-file
invariant-loop-file l =
    let rest = zip (iter_rest (zip_first l.file-iterator)) (iter_rest (zip_second l.file-iterator)) in
    record {
      beside : l.inputs.beside ≡ l.fn.beside;
      before : List (File × File);
      read : AreReadPairs before l.inputs;
      left : before ++ readable_pairs rest ≡ readable_pairs (pairs l.files l.references);
      unread : unread_views l.unread.items ++ unread_pairs rest ≡ unread_views l.fn.unread.items ++ unread_pairs (pairs l.files l.references);
    }
