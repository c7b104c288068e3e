use Rattle.std.proofs.Common.{refl, sym}
use Rattle.fluent_lint.proofs.Again.{goes_again, goes_first}
use Rattle.fluent_lint.proofs.sources.add_id.Goals as goal

pub returns-in_ok-push-in-Some : goal.returns-in_ok-push-in-Some
returns-in_ok-push-in-Some c = goes_again c.args.id c.args.here c.in-Some.first _ c.args.seen.now (record { firsts = c.args.seen.now.firsts; list = c.push.new.self }) (sym c.in-Some.ensures) refl c.in_ok-push-in-Some.ensures.items refl

pub returns-in_ok-insert-in-None : goal.returns-in_ok-insert-in-None
returns-in_ok-insert-in-None c = goes_first c.args.id c.args.here c.args.seen.now (record { firsts = c.insert.new.self; list = c.args.seen.now.list }) (sym c.in-None.ensures) c.in_ok-insert-in-None.ensures.updates.0 refl
