use Rattle.std.proofs.Common.{◌+◌, ◌∙◌, sym, ap, subst, Err, take}
use Rattle.std.specs.Io.KnownBytes.{Appends}
use Rattle.std.proofs.KnownBytes.{Appends-trans}
use Rattle.std.proofs.lemmas.List.{take_all}
use Rattle.fluent_text.specs.Writer.{writer_in}
use Rattle.fluent_text.specs.declared.counting.WriteFault.TheVariants.{Memory}
use Rattle.fluent_text.specs.Taken.{TookPrefix}
use Rattle.fluent_show_cli.specs.Program.{error_lines}
use Rattle.fluent_resolver_state.specs.Status.{reported}
use Rattle.fluent_show_cli.proofs.Began.{took_fault}
use Rattle.fluent_show_cli.proofs.Faults.{passed}
use Rattle.fluent_show_cli.proofs.Lines.{one_more, first_precede, lines_on}
use Rattle.fluent_show_cli.proofs.Taking.{prefix_short, prefix_then}
use Rattle.fluent_show_cli.proofs.report.put_errors.Goals as goal

pub returns-in_err-line-clause-lines : goal.returns-in_err-line-clause-lines
returns-in_err-line-clause-lines g c =
    let e = passed c.from_residual.result Memory c.from_residual.ensures.1 in
    rw e (reported (take c.loop-error.error-index c.args.errors.now), first_precede c.args.errors.now c.loop-error.error-index c.error-item.result c.loop-error-test.true, c.loop-error.invariant.0)

pub loop-error-preserved : goal.loop-error-preserved
loop-error-preserved g c =
    let e = one_more c.args.errors.now c.loop-error.error-index c.error-item.result c.loop-error-test.true c.error-item.is in
    let both = Appends-trans _ _ _ _ _ c.loop-error.invariant.0 c.in_ok-put.ensures.whole in
    (rw e (rw (c.as_bytes.ensures.value, c.in_ok-line.ensures) at both), c.in_ok-put.ensures.fault.0 ∙ c.loop-error.invariant.1, c.in_ok-put.ensures.fault.1 ∙ c.loop-error.invariant.2)

pub returns-clause-lines : goal.returns-clause-lines
returns-clause-lines g c =
    let contents = g.E.Write.contents in
    let all = take_all c.loop-error.error-index c.args.errors.now c.loop-error-test.false in
    subst (λ es. Appends (contents (writer_in c.args.err.now)) (contents (writer_in c.loop-error.err)) (error_lines (reported es))) all c.loop-error.invariant.0

pub returns-in_err-put-clause-lines : goal.returns-in_err-put-clause-lines
returns-in_err-put-clause-lines g c =
    let errors = c.args.errors.now in
    let i = c.loop-error.error-index in
    let e = one_more errors i c.error-item.result c.loop-error-test.true c.error-item.is in
    let both = prefix_then _ _ _ _ _ c.loop-error.invariant.0 c.in_err-put.ensures.prefix in
    let some : TookPrefix (g.E.Write.contents (writer_in c.args.err.now)) (g.E.Write.contents (writer_in c.put.new.w)) (error_lines (reported (take (i + 1) errors)))
    = rw e (rw (c.as_bytes.ensures.value, c.in_ok-line.ensures) at both) in
    let all = subst (λ t. TookPrefix (g.E.Write.contents (writer_in c.args.err.now)) (g.E.Write.contents (writer_in c.put.new.w)) t) (sym (lines_on errors (i + 1))) (prefix_short _ _ _ _ some) in
    let is = passed c.from_residual-in_err-put.result c.in_err-put.field-0.0 c.from_residual-in_err-put.ensures.1 in
    took_fault _ _ (reported errors) _ _ is (λ m. c.in_err-put.ensures.memory (ap Err m)) all
