use Rattle.std.proofs.Common.{rules, ◌∙◌, ◌++◌}
use Rattle.fluent_values.specs.Facts.Outputs.{stays_through}
use Rattle.fluent_values.specs.Facts.Took.{took_on, took_stops}
use Rattle.fluent_resolver_state.proofs.fallback.put_between.Goals as goal

pub returns-in_err-put_here-clause-took : goal.returns-in_err-put_here-clause-took
returns-in_err-put_here-clause-took g c = took_stops (c.args.text.now ++ c.args.after.now) c.in_err-put_here.was (search rules) c.put_here.ensures.took

pub returns-in_err-put_here-2-clause-took : goal.returns-in_err-put_here-2-clause-took
returns-in_err-put_here-2-clause-took g c = took_on c.in_ok-put_here.was c.put_here.ensures.took (took_stops c.args.after.now c.in_err-put_here-2.was (search rules) c.put_here-2.ensures.took)

pub returns-in_err-put_here-2-clause-memory : goal.returns-in_err-put_here-2-clause-memory
returns-in_err-put_here-2-clause-memory g c = λ through is. c.put_here-2.ensures.memory (stays_through g.W.Write.contents c.args.out.now c.put_here.new.out c.put_here.ensures.took.beside through) (c.in_err-put_here-2.was ∙ search rules)

pub returns-clause-took : goal.returns-clause-took
returns-clause-took g c = took_on c.in_ok-put_here.was c.put_here.ensures.took (took_on c.in_ok-put_here-2.was c.put_here-2.ensures.took c.put_here-3.ensures.took)

pub returns-clause-memory : goal.returns-clause-memory
returns-clause-memory g c = λ through is. c.put_here-3.ensures.memory (stays_through g.W.Write.contents c.args.out.now c.put_here-2.new.out (c.put_here-2.ensures.took.beside ∙ c.put_here.ensures.took.beside) through) is
