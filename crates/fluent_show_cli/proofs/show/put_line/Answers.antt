use Rattle.std.proofs.Common.{[], ◌∷◌}
use Rattle.fluent_show_cli.proofs.Faults.{not_ok}
use Rattle.fluent_show_cli.proofs.Taking.{took_put, took_short, took_then}
use Rattle.fluent_show_cli.proofs.show.put_line.Goals as goal

pub returns-in_err-put-clause-took : goal.returns-in_err-put-clause-took
returns-in_err-put-clause-took g c =
    let faulted = not_ok c.from_residual.result c.from_residual.ensures.0 in
    rw (← c.as_bytes.ensures.value)
    (took_short c.put.result _ _ (10 ∷ []) _ _ faulted (took_put c.put.result _ _ _ c.put.ensures.whole c.put.ensures.prefix))

pub returns-clause-took : goal.returns-clause-took
returns-clause-took g c =
    rw (← c.as_bytes.ensures.value)
    (took_then c.put.result c.put-2.result _ _ (10 ∷ []) _ _ _ c.in_ok-put.was (took_put c.put.result _ _ _ c.put.ensures.whole c.put.ensures.prefix)
    (took_put c.put-2.result _ _ _ c.put-2.ensures.whole c.put-2.ensures.prefix))
