use Rattle.std.proofs.Common.{refl}
use Rattle.fluent_places.proofs.Shared.{covers_taken, listed_taken, ok_map, settled}
use Rattle.fluent_places.proofs.settling.settle.Goals as goal

pub join_all-requires : goal.join_all-requires
join_all-requires g c κs =
    let named = g.B.GetEntry.named c.args.bundle.now in
    let old = c.args.asked.now in
    let new = c.add.new.self in
    let found = c.in_ok-found.found in
    let is = c.in_ok-found.ensures in
    let takes = c.in_ok-index.ensures in (
      (refl, tt),
      (
        listed_taken named old new c.args.place.now found.names.keys c.in_ok-index.index c.requires takes is.asked is.distinct,
        covers_taken named old new c.args.place.now found c.in_ok-index.index is takes,
      ),
    )

pub returns : goal.returns
returns g c = ok_map c.join_all.result _ _
    (settled (g.B.GetEntry.named c.args.bundle.now) c.args.asked.now c.add.new.self c.join_all.new.asked c.args.place.now c.in_ok-found.found.names.keys c.in_ok-index.index c.in_ok-index.ensures) c.join_all.ensures
