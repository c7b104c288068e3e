use Rattle.std.proofs.Common.{◌∙◌, ap, sym, is_some}
use Rattle.fluent_c_handles.specs.Answers.{bundle_view, declared_view}
use Rattle.fluent_c_handles.proofs.Family.{found_same}
use Rattle.fluent_c_handles.proofs.lookup.has_pattern.Goals as goal

pub returns : goal.returns
returns c = λ all. c.is_there.ensures ∙ sym (ap is_some (found_same all (declared_view c.args.stock.now.declared) (bundle_view c.args.stock.now.bundle) c.args.id.now c.args.name.now))
