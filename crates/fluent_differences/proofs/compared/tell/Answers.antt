use Rattle.std.proofs.Common.{ap, sym, subst}
use Rattle.std.specs.Option.{option_map}
use Rattle.std.specs.Result.{OnOk}
use Rattle.fluent_places.specs.Asked.{texts}
use Rattle.fluent_patterns.specs.Found.{flaws_in}
use Rattle.fluent_differences.specs.Compared.{told_view}
use Rattle.fluent_differences.specs.Inside.Names.{TellsOnce}
use Rattle.fluent_differences.proofs.Naming.{told_none}
use Rattle.fluent_differences.proofs.compared.tell.Goals as goal

pub returns-in-Some : goal.returns-in-Some
returns-in-Some c = subst (λ o. OnOk c.tell_once.result (TellsOnce (option_map told_view o) c.args.names.now c.tell_once.new.names c.args.flaws.now c.tell_once.new.flaws)) (sym c.in-Some.is) c.tell_once.ensures

pub returns-in-None : goal.returns-in-None
returns-in-None c = λ xs. told_none (option_map told_view c.args.told) (flaws_in c.args.flaws.now) (texts c.args.names.now.keys) xs (ap (option_map told_view) c.in-None.is)
