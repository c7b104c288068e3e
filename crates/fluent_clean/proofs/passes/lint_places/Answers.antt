use Rattle.fluent_places.specs.Places.{views}
use Rattle.fluent_clean.proofs.Looked.{finds}
use Rattle.fluent_clean.proofs.passes.lint_places.Goals as goal

pub returns : goal.returns
returns g c =
    let told = c.in_ok-findings.ensures in
    finds (g.B.GetEntry.named c.args.bundle.now) c.args.limit (views c.args.places.now) told.0 _ _ told.1 told.2 (c.in_ok-add_cycles.ensures c.args.limit)
