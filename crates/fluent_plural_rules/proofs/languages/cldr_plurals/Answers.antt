use Rattle.std.proofs.Common.{refl}
use Rattle.fluent_plural_rules.specs.LanguageTable.{cldr_plurals}
use Rattle.fluent_plural_rules.proofs.languages.cldr_plurals.Goals as goal

pub returns : goal.returns
unfolding cldr_plurals
returns c = refl
