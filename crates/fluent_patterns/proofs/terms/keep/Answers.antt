use Rattle.std.proofs.Common.{refl}
use Rattle.fluent_ast.specs.View.{pattern_view}
use Rattle.fluent_places.specs.Places.{place_view}
use Rattle.fluent_patterns.proofs.Kept.{kept_after, shown_by}
use Rattle.fluent_patterns.proofs.terms.keep.Goals as goal

pub returns : goal.returns
returns g c =
    let named = g.B.GetEntry.named c.args.bundle.now in
    let x = c.args.place.now in
    kept_after named x c.in_ok-set.set c.args.table.now.entries c.insert.new.self.entries c.in_ok-insert.ensures.updates.0 c.requires
    (shown_by named (place_view x) _ _ c.in-Some.ensures c.in_ok-set.ensures)
