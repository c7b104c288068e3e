use Rattle.fluent_bundle_entries.specs.IdNumbers.{numbers, table}
use Rattle.fluent_adding.proofs.functions.set_entry.Goals as goal

pub put-requires-clause-linked : goal.put-requires-clause-linked
put-requires-clause-linked g c = c.plain.ensures.linked (numbers c.number_of.new.self) (table c.number_of.new.self)
