use Rattle.fluent_patterns.specs.Found.{found_in}
use Rattle.fluent_sources.specs.Standing.{standing_view}
use Rattle.fluent_sources.proofs.TakenIds.{id_noted}
use Rattle.fluent_sources.proofs.taken.add_at.Goals as goal

pub returns-in_ok-insert-in-None : goal.returns-in_ok-insert-in-None
returns-in_ok-insert-in-None c = λ ss.
    id_noted (standing_view c.args.standing.now) c.in-Some.id c.spot.result c.args.firsts.now.entries c.insert.new.self.entries (found_in c.args.findings.now) ss
    c.in-Some.ensures c.in-None.ensures c.in_ok-insert-in-None.ensures.entries c.spot.ensures
