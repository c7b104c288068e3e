use Rattle.std.proofs.Common.{subst}
use Rattle.std.proofs.lemmas.List.{take_all}
use Rattle.fluent_places.specs.Asked.{texts}
use Rattle.fluent_c_handles.specs.Inside.Gathered.{HaveSame, texts_of}
use Rattle.fluent_c_handles.proofs.Asked.{has_more, has_none, texts_rise}
use Rattle.fluent_c_handles.proofs.variables.set_of.Goals as goal

pub loop-name-init : goal.loop-name-init
loop-name-init c = record { same = has_none _ c.new-set.ensures.empty; rise = texts_rise _ c.new-set.ensures.ordered }

pub loop-name-preserved : goal.loop-name-preserved
loop-name-preserved c = record {
  same = has_more c.loop-name.set.keys c.insert.new.self.keys c.args.names.now c.loop-name.name-index _ c.loop-name-test.true c.in_ok-insert.ensures.keys c.loop-name.invariant.same;
  rise = texts_rise _ c.insert.ensures.ordered;
}

pub returns : goal.returns
returns c = record {
  same = subst (λ l. HaveSame (texts_of c.loop-name.set.keys) (texts l)) (take_all c.loop-name.name-index c.args.names.now c.loop-name-test.false) c.loop-name.invariant.same;
  rise = c.loop-name.invariant.rise;
}
