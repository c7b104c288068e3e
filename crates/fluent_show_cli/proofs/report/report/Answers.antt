use Rattle.std.proofs.Common.{rules, ◌≡◌, ap, inl, inr, subst, Err}
use Rattle.std.specs.Io.KnownBytes.{Appends}
use Rattle.std.proofs.KnownBytes.{Appends-trans}
use Rattle.fluent_text.specs.Writer.{writer_in}
use Rattle.fluent_text.specs.Taken.{TookPrefix}
use Rattle.fluent_text.specs.declared.counting.WriteFault.{WriteFault}
use Rattle.fluent_text.specs.declared.counting.WriteFault.TheVariants.{Memory}
use Rattle.fluent_show_cli.specs.Program.{ending_line}
use Rattle.fluent_resolver_state.specs.Status.{reported}
use Rattle.fluent_show_cli.specs.Runs.{ending_view}
use Rattle.fluent_show_cli.specs.declared.report.Ending.{Ending}
use Rattle.fluent_show_cli.specs.Inside.Said.{TookErrors}
use Rattle.fluent_show_cli.proofs.Began.{began_all, began_errors, began_some}
use Rattle.fluent_show_cli.proofs.Taking.{on_err}
use Rattle.fluent_show_cli.proofs.report.report.Goals as goal
use Rattle.fluent_show_cli.proofs.report.report.Goals.{in-Ok, in-Err-Memory}

pub returns-in-Err : goal.returns-in-Err
returns-in-Err g c =
    let not : ¬ (c.in-Err.fault ≡ Memory) = search rules in
    record {
      says = tt;
      prefix = began_errors c.in-Err.fault _ _ _ _ not c.in-Err.ensures.lines;
      fault = c.in-Err.ensures.fault;
      memory = search rules;
    }

pub returns-clause-says : goal.returns-clause-says
returns-clause-says g c =
    let to = λ (e : Ending). Appends (g.E.Write.contents (writer_in c.put_errors.new.err)) (g.E.Write.contents (writer_in c.put_ending.new.err)) (ending_line (ending_view e)) in
    let errors = reported c.args.errors.now in
    let took = λ (f : WriteFault). TookErrors (Err f) errors (g.E.Write.contents (writer_in c.args.err.now)) (g.E.Write.contents (writer_in c.put_errors.new.err)) in
    elim c.match-put_errors.branch [
      | in-Ok w ↦ inl (ap ending_view w.ending-is, Appends-trans _ _ _ _ _ w.in-Ok.ensures.lines (subst to w.ending-is c.in_ok-put_ending.ensures.took.all))
      | in-Err-Memory w ↦
          let lines = subst took w.in-Err-Memory.field-0-is w.in-Err-Memory.ensures.lines in
          inr (lines.0, lines.1, ap ending_view w.ending-is, Appends-trans _ _ _ _ _ lines.2 (subst to w.ending-is c.in_ok-put_ending.ensures.took.all))
    ]

pub returns-in_err-put_ending-clause-prefix : goal.returns-in_err-put_ending-clause-prefix
returns-in_err-put_ending-clause-prefix g c =
    let to = λ (e : Ending). TookPrefix (g.E.Write.contents (writer_in c.put_errors.new.err)) (g.E.Write.contents (writer_in c.put_ending.new.err)) (ending_line (ending_view e)) in
    let errors = reported c.args.errors.now in
    let took = λ (f : WriteFault). TookErrors (Err f) errors (g.E.Write.contents (writer_in c.args.err.now)) (g.E.Write.contents (writer_in c.put_errors.new.err)) in
    let ending = ending_view c.args.ending in
    on_err c.from_residual.result (elim c.match-put_errors.branch [
      | in-Ok w ↦ began_all errors ending _ _ _ w.in-Ok.ensures.lines (subst to w.ending-is c.in_err-put_ending.ensures.took.prefix)
      | in-Err-Memory w ↦ began_some errors ending _ _ _ (subst took w.in-Err-Memory.field-0-is w.in-Err-Memory.ensures.lines) (subst to w.ending-is c.in_err-put_ending.ensures.took.prefix)
    ])
