use Rattle.std.proofs.Common.{[], ◌∷◌}
use Rattle.fluent_show_cli.proofs.Faults.{counts_then, never_memory, not_ok, passed}
use Rattle.fluent_show_cli.proofs.Taking.{took_put, took_short, took_then}
use Rattle.fluent_show_cli.proofs.report.put_no_message.Goals as goal

pub returns-in_err-put-clause-took : goal.returns-in_err-put-clause-took
returns-in_err-put-clause-took g c =
    let faulted = not_ok c.from_residual.result c.from_residual.ensures.0 in
    took_short c.put.result _ _ _ _ _ faulted (took_put c.put.result _ _ _ c.put.ensures.whole c.put.ensures.prefix)

pub returns-in_err-put-2-clause-took : goal.returns-in_err-put-2-clause-took
returns-in_err-put-2-clause-took g c =
    let faulted = not_ok c.from_residual-in_err-put-2.result c.from_residual-in_err-put-2.ensures.0 in
    rw (← c.as_bytes.ensures.value)
    (took_short c.put-2.result _ _ (10 ∷ []) _ _ faulted
    (took_then c.put.result c.put-2.result _ _ _ _ _ _ c.in_ok-put.was (took_put c.put.result _ _ _ c.put.ensures.whole c.put.ensures.prefix)
    (took_put c.put-2.result _ _ _ c.put-2.ensures.whole c.put-2.ensures.prefix)))

pub returns-clause-took : goal.returns-clause-took
returns-clause-took g c =
    rw (← c.as_bytes.ensures.value)
    (took_then c.put-2.result c.put-3.result _ _ (10 ∷ []) _ _ _ c.in_ok-put-2.was
    (took_then c.put.result c.put-2.result _ _ _ _ _ _ c.in_ok-put.was (took_put c.put.result _ _ _ c.put.ensures.whole c.put.ensures.prefix)
    (took_put c.put-2.result _ _ _ c.put-2.ensures.whole c.put-2.ensures.prefix))
    (took_put c.put-3.result _ _ _ c.put-3.ensures.whole c.put-3.ensures.prefix))

-- ---- what is counted

pub returns-clause-fault : goal.returns-clause-fault
returns-clause-fault g c =
    counts_then c.put-2.result c.put-3.result _ _ c.put-2.new.w _ c.in_ok-put-2.was
    (counts_then c.put.result c.put-2.result _ _ c.put.new.w _ c.in_ok-put.was c.put.ensures.fault c.put-2.ensures.fault) c.put-3.ensures.fault

pub returns-in_err-put-2-clause-memory : goal.returns-in_err-put-2-clause-memory
returns-in_err-put-2-clause-memory g c =
    let e = c.in_err-put-2.field-0.0 in
    never_memory c.put-2.result c.from_residual-in_err-put-2.result e c.in_err-put-2.was (passed _ e c.from_residual-in_err-put-2.ensures.1) c.put-2.ensures.memory
