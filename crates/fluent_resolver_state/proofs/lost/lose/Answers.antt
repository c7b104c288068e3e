use Rattle.std.proofs.Common.{rules}
use Rattle.fluent_ast.specs.View.{inline_view}
use Rattle.fluent_resolver_state.specs.Facts.Happening.{did_nothing, did_tell_and_put}
use Rattle.fluent_resolver_state.specs.Happened.{lost_events}
use Rattle.fluent_resolver_state.specs.Status.{state_parts}
use Rattle.fluent_resolver_state.proofs.lost.lose.Goals as goal

pub returns-in_err-report_lost-clause-wrote : goal.returns-in_err-report_lost-clause-wrote
unfolding state_parts
returns-in_err-report_lost-clause-wrote g c = did_nothing (lost_events (inline_view c.args.inline.now)) _ (search rules) c.in_err-report_lost.was c.report_lost.ensures.reports

pub returns-clause-wrote : goal.returns-clause-wrote
unfolding state_parts
returns-clause-wrote g c = did_tell_and_put c.in_ok-report_lost.was c.report_lost.ensures.reports c.put_in_braces.ensures.took
