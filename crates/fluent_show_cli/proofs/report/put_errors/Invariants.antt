use Rattle.std.proofs.Common.{◌≡◌, take}
use Rattle.std.specs.Io.KnownBytes.{Appends}
use Rattle.fluent_text.specs.Writer.{writer_in, failed_in, empty_in}
use Rattle.fluent_show_cli.specs.Program.{error_lines}
use Rattle.fluent_resolver_state.specs.Status.{reported}
use Rattle.fluent_show_cli.proofs.report.put_errors.Given as goal

abbrev pub invariant-loop-error : goal.invariant-loop-error
invariant-loop-error g l =
    Appends (g.E.Write.contents (writer_in l.fn.err)) (g.E.Write.contents (writer_in l.err)) (error_lines (reported (take l.error-index l.errors)))
    × (failed_in l.err ≡ failed_in l.fn.err)
    × (empty_in l.err ≡ empty_in l.fn.err)
