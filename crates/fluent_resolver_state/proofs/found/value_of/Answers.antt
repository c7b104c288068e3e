use Rattle.std.proofs.Common.{ap}
use Rattle.fluent_ast.specs.View.{pattern_view, value_view}
use Rattle.fluent_resolver_state.proofs.found.value_of.Goals as goal

pub returns-in-Some-clause-led : goal.returns-in-Some-clause-led
returns-in-Some-clause-led c = λ number table kept.
    c.of.ensures.stored number table
    (kept (pattern_view c.in-Some.pattern) (ap value_view c.in-Some.is))
