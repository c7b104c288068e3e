use Rattle.std.proofs.Common.{◌≡◌, ◌++◌, flat_map, string_bytes}
use Rattle.fluent_cli_report.specs.Picture.{in_picture}
use Rattle.fluent_cli_report.proofs.picture.put_shown.Given as goal

abbrev pub invariant-loop-c : goal.invariant-loop-c
invariant-loop-c l = string_bytes l.output ≡ string_bytes l.fn.output ++ flat_map in_picture l.yielded
