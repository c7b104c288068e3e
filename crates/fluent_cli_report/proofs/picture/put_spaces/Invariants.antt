use Rattle.std.proofs.Common.{◌≡◌, ◌++◌, string_bytes}
use Rattle.std.specs.Prelude.{replicate}
use Rattle.fluent_cli_report.proofs.picture.put_spaces.Given as goal

abbrev pub invariant-spaces : goal.invariant-spaces
invariant-spaces l = string_bytes l.output ≡ string_bytes l.fn.output ++ replicate l._turn 32
