use Rattle.std.proofs.Common.{refl}
use Rattle.fluent_plural_rules.specs.Inside.Rows.{read_texts}
use Rattle.fluent_plural_rules.proofs.cldr.texts.Goals as goal

pub returns : goal.returns
unfolding read_texts
returns c = refl
