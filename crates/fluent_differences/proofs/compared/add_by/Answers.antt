use Rattle.std.proofs.Common.{◌++◌, ap, map}
use Rattle.fluent_places.specs.Asked.{texts}
use Rattle.fluent_places.specs.NeedsView.{need_view}
use Rattle.fluent_patterns.specs.Found.{flaws_in}
use Rattle.fluent_differences.specs.Compared.{firsts, flaws_by, told_from}
use Rattle.fluent_differences.proofs.Naming.{told_all, told_more}
use Rattle.fluent_differences.proofs.compared.add_by.Goals as goal

pub loop-number-init : goal.loop-number-init
loop-number-init g c = ap (λ ks. flaws_in c.args.flaws.now ++ firsts (texts ks) (told_from (g.R.Rule.rule c.args.rule.now) 0 (map need_view c.args.list.now))) c.new-names.ensures.empty

pub loop-number-preserved : goal.loop-number-preserved
loop-number-preserved g c =
    let rule = g.R.Rule.rule c.args.rule.now in
    told_more rule c.args.list.now c.loop-number.number c.index-list-number.result _ (flaws_in c.loop-number.flaws) (flaws_in c.tell.new.flaws) (flaws_in c.args.flaws.now ++ flaws_by rule (map need_view c.args.list.now))
    (texts c.loop-number.names.keys) (texts c.tell.new.names.keys) c.loop-number-test.true c.index-list-number.is c.told.ensures c.in_ok-tell.ensures c.loop-number.invariant

pub returns : goal.returns
returns g c =
    let rule = g.R.Rule.rule c.args.rule.now in
    told_all rule c.args.list.now c.loop-number.number (flaws_in c.loop-number.flaws) (flaws_in c.args.flaws.now ++ flaws_by rule (map need_view c.args.list.now)) (texts c.loop-number.names.keys) c.loop-number-test.false c.loop-number.invariant
