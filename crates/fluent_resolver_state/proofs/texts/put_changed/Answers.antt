use Rattle.std.proofs.Common.{rules, ◌∙◌}
use Rattle.fluent_values.specs.Facts.Took.{took_none, took_same}
use Rattle.fluent_resolver_state.proofs.texts.put_changed.Goals as goal

pub returns-clause-took : goal.returns-clause-took
returns-clause-took g c = took_same (c.deref.ensures.value ∙ c.in_ok-changed.ensures.text) c.put_text.ensures.took

pub returns-clause-memory : goal.returns-clause-memory
returns-clause-memory g c = λ plain. c.put_text.ensures.memory

pub returns-in_err-changed-clause-took : goal.returns-in_err-changed-clause-took
returns-in_err-changed-clause-took g c = took_none _ _ (search (rules, c.from_residual.ensures))
