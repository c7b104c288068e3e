use Rattle.std.proofs.Common.{◌∙◌, [], ap, sym, is_some}
use Rattle.fluent_c_handles.specs.Answers.{bundle_view, declared_view}
use Rattle.fluent_c_handles.proofs.Family.{found_same}
use Rattle.fluent_c_handles.proofs.place.place_of.Goals as goal

pub returns : goal.returns
returns c = record {
  there = c.place_in.ensures.there ∙ sym (ap is_some (found_same [] (declared_view c.args.stock.now.declared) (bundle_view c.args.stock.now.bundle) c.args.id.now c.args.name.now));
  is = c.place_in.ensures.is;
}
