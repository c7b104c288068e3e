use Rattle.fluent_text.specs.Facts.Runs.{boundary-one}
use Rattle.fluent_plural_rules.proofs.rule_texts.lexical.after_first.Goals as goal

pub range_from-requires : goal.range_from-requires
range_from-requires c _ = boundary-one c.args.s.now c.utf8.s c.requires.some c.requires.ascii
