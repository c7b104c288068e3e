use Rattle.fluent_places.specs.Places.{views}
use Rattle.fluent_patterns.proofs.Told.{all_told}
use Rattle.fluent_patterns.proofs.terms.terms_at.Goals as goal

pub returns-clause-asked : goal.returns-clause-asked
returns-clause-asked g c = all_told (g.B.GetEntry.named c.args.bundle.now) c.in_ok-asked.asked (views c.args.places.now) c.in_ok-asked.ensures
