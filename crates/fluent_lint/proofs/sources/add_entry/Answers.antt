use Rattle.std.proofs.Common.{OnOk, subst}
use Rattle.fluent_lint.specs.Twice.{defined_if}
use Rattle.fluent_lint.specs.Inside.Seen.{GoesOver}
use Rattle.fluent_lint.proofs.sources.add_entry.Goals as goal

pub returns-in-Some : goal.returns-in-Some
returns-in-Some c = subst (λ o. OnOk c.add_id.result (GoesOver (defined_if o c.args.here) c.args.seen.now c.add_id.new.seen)) c.in-Some.ensures c.add_id.ensures
