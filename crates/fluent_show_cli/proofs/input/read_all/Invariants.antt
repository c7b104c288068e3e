use Rattle.std.proofs.Common.{◌≡◌, ◌-◌, ◌≤◌, length}
use Rattle.std.specs.Io.KnownBytes.{Consumes}
use Rattle.fluent_show_cli.specs.Runs.{ReadsAreBounded, reader_in, made_in, state_in, most_reads}
use Rattle.fluent_show_cli.specs.declared.input.InputState.TheVariants.{Open}
use Rattle.fluent_show_cli.proofs.input.read_all.Given as goal

abbrev pub invariant-loop-input : goal.invariant-loop-input
invariant-loop-input g l =
    record {
      bytes : Consumes (g.R.Read.remaining (reader_in l.fn.input)) (g.R.Read.remaining (reader_in l.input)) l.bytes.items;
      given : made_in l.input ≤ length l.bytes.items;
      state : state_in l.input ≡ Open;
      bounded : ReadsAreBounded l.input;
    }

abbrev pub decreases-loop-input : goal.decreases-loop-input
decreases-loop-input g l = most_reads - made_in l.input
