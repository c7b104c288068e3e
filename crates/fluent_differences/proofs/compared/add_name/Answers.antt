use Rattle.fluent_differences.proofs.Naming.{has_more}
use Rattle.fluent_differences.proofs.compared.add_name.Goals as goal

pub returns : goal.returns
returns c = has_more c.args.name c.args.names.now.keys c.insert.new.self.keys c.in_ok-insert.ensures.keys
