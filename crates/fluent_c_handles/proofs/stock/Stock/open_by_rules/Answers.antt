use Rattle.fluent_c_handles.specs.Answers.{bundle_view}
use Rattle.fluent_c_handles.proofs.Opens.{bare_by_rules}
use Rattle.fluent_c_handles.proofs.stock.Stock.open_by_rules.Goals as goal

-- nothing was added yet
pub of-requires : goal.of-requires
of-requires c = record { new = bare_by_rules c.args.cardinal.now c.args.ordinal.now c.args.isolate _ c.in-Ok.ensures.ok c.in-Ok.ensures.unset }

pub returns-in-Ok-clause-ok : goal.returns-in-Ok-clause-ok
returns-in-Ok-clause-ok c = record { bundle = bundle_view c.in-Ok.bundle; opened = c.in-Ok.ensures.ok; new = c.of.ensures }
