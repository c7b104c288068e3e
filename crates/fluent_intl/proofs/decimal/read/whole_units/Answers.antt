use Rattle.fluent_intl.proofs.DecimalPoints.{refuse_whole}
use Rattle.fluent_intl.proofs.decimal.read.whole_units.Goals as goal

pub returns-in_default : goal.returns-in_default
returns-in_default c = refuse_whole c.args.text.now c.requires c.in_default.ensures
