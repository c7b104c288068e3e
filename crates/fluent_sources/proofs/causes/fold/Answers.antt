use Rattle.std.proofs.Common.{map, refl, take}
use Rattle.fluent_patterns.specs.Found.{found_view}
use Rattle.fluent_sources.specs.Causes.{cause_of, folded, folded_views}
use Rattle.fluent_sources.specs.Inside.Causes.{cause_view, number_in}
use Rattle.fluent_sources.proofs.Folding.{counts_more, folds_more}
use Rattle.fluent_sources.proofs.causes.fold.Goals as goal

pub loop-finding-preserved : goal.loop-finding-preserved
loop-finding-preserved c =
    let xs = c.args.findings.now in
    let i = c.loop-finding.finding-index in
    let all = map cause_of (map found_view xs) in
    let before = map cause_of (map found_view (take i xs)) in (
      λ q. counts_more (cause_view q) xs i _ _ (number_in c.loop-finding.seen (cause_view q)) (number_in c.add.new.seen (cause_view q)) c.loop-finding-test.true refl (c.loop-finding.invariant.0 q) (c.in_ok-add.ensures.counted q),
      folds_more all xs i _ (folded_views c.loop-finding.list.items) (folded_views c.add.new.list.items) (folded (map found_view xs)) c.loop-finding-test.true
          (c.in_ok-add.ensures.told all before c.in_ok-counts.ensures c.loop-finding.invariant.0) c.loop-finding.invariant.1,
    )
