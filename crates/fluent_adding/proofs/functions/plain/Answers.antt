use Rattle.std.proofs.Common.{refl}
use Rattle.fluent_adding.proofs.Linking.{plain_linked}
use Rattle.fluent_adding.proofs.functions.plain.Goals as goal

pub returns-clause-linked : goal.returns-clause-linked
returns-clause-linked g c = λ number table. plain_linked number table _ c.requires.value c.requires.attributes refl
