use Rattle.std.proofs.Common.{rules, ap}
use Rattle.fluent_semantics.specs.Bundle.{shown}
use Rattle.fluent_values.specs.Facts.Took.{took_none, took_same}
use Rattle.fluent_resolver_state.proofs.locals.put_literal.Goals as goal

pub returns : goal.returns
returns g c = took_same (ap (shown (g.B.Context.meant c.args.bundle.now)) c.in_ok-value.ensures) c.put_value.ensures.took

pub returns-in_err-value : goal.returns-in_err-value
returns-in_err-value g c = took_none _ _ (search (rules, c.from_residual.ensures))
