use Rattle.fluent_patterns.specs.Found.{found_in}
use Rattle.fluent_check.specs.Inside.Places.{place_found}
use Rattle.fluent_check.proofs.Looking.{wholes_more}
use Rattle.fluent_check.proofs.checking.add_wholes.Goals as goal

pub loop-whole-preserved : goal.loop-whole-preserved
loop-whole-preserved c =
    wholes_more (place_found c.args.places.now) c.args.list.now c.loop-whole.whole-index _ (found_in c.loop-whole.findings) (found_in c.add_whole.new.findings) _ c.loop-whole-test.true c.in_ok-add_whole.ensures c.loop-whole.invariant
