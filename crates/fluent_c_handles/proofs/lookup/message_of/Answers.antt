use Rattle.std.proofs.Common.{◌∙◌, sym}
use Rattle.fluent_c_handles.specs.Answers.{bundle_view, declared_view}
use Rattle.fluent_c_handles.proofs.Family.{message_same}
use Rattle.fluent_c_handles.proofs.lookup.message_of.Goals as goal

pub returns : goal.returns
returns c = λ all. c.get_message.ensures.content ∙ sym (message_same all (declared_view c.args.stock.now.declared) (bundle_view c.args.stock.now.bundle) c.args.id.now)
