use Rattle.fluent_show_cli.proofs.Taking.{took_put}
use Rattle.fluent_show_cli.proofs.report.put_ending.Goals as goal

pub returns-in-Usage-clause-took : goal.returns-in-Usage-clause-took
returns-in-Usage-clause-took g c = rw c.in-Usage.is (took_put c.put.result _ _ _ c.put.ensures.whole c.put.ensures.prefix)

pub returns-in-PluralRule-clause-took : goal.returns-in-PluralRule-clause-took
returns-in-PluralRule-clause-took g c = rw c.in-PluralRule.is (took_put c.put-in-PluralRule.result _ _ _ c.put-in-PluralRule.ensures.whole c.put-in-PluralRule.ensures.prefix)

pub returns-in-NotUtf8-clause-took : goal.returns-in-NotUtf8-clause-took
returns-in-NotUtf8-clause-took g c = rw c.in-NotUtf8.is (took_put c.put-in-NotUtf8.result _ _ _ c.put-in-NotUtf8.ensures.whole c.put-in-NotUtf8.ensures.prefix)

pub returns-in-Memory-clause-took : goal.returns-in-Memory-clause-took
returns-in-Memory-clause-took g c = rw c.in-Memory.is (took_put c.put-in-Memory.result _ _ _ c.put-in-Memory.ensures.whole c.put-in-Memory.ensures.prefix)

pub returns-in-Reading-clause-took : goal.returns-in-Reading-clause-took
returns-in-Reading-clause-took g c = rw c.in-Reading.is (took_put c.put-in-Reading.result _ _ _ c.put-in-Reading.ensures.whole c.put-in-Reading.ensures.prefix)

pub returns-in-Writing-clause-took : goal.returns-in-Writing-clause-took
returns-in-Writing-clause-took g c = rw c.in-Writing.is (took_put c.put-in-Writing.result _ _ _ c.put-in-Writing.ensures.whole c.put-in-Writing.ensures.prefix)
