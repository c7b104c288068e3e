use Rattle.fluent_differences.proofs.Naming.{none_more, some_more}
use Rattle.fluent_differences.proofs.compared.add_some.Goals as goal

pub returns-in-Some : goal.returns-in-Some
returns-in-Some c = some_more c.add_name.result c.args.name c.in-Some.name c.args.names.now c.add_name.new.names c.in-Some.is c.add_name.ensures

pub returns-in-None : goal.returns-in-None
returns-in-None c = none_more c.args.name c.args.names.now c.in-None.is
