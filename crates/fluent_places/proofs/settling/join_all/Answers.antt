use Rattle.std.proofs.Common.{refl}
use Rattle.fluent_places.specs.Places.{views}
use Rattle.fluent_places.proofs.Shared.{covers_kept, joined_not, joined_on}
use Rattle.fluent_places.proofs.settling.join_all.Goals as goal

pub loop-other-init : goal.loop-other-init
loop-other-init g c = joined_not (g.B.GetEntry.named c.args.bundle.now) c.args.asked.now c.requires.listed

pub join-requires : goal.join-requires
join-requires g c κs = (
  (refl, tt),
  (c.loop-other.invariant.listed, covers_kept (g.B.GetEntry.named c.args.bundle.now) (views c.args.reached.now.keys) c.args.asked.now c.loop-other.asked c.args.index c.loop-other.invariant.lists c.requires.covers),
)

pub loop-other-preserved : goal.loop-other-preserved
loop-other-preserved g c = joined_on (g.B.GetEntry.named c.args.bundle.now) c.args.asked.now c.loop-other.asked c.join.new.asked c.loop-other.invariant c.in_ok-join.ensures
