use Rattle.std.proofs.Common.{◌∙◌, ap}
use Rattle.fluent_c_handles.specs.Answers.{stock_content}
use Rattle.fluent_c_handles.specs.Calls.Adding.{added_to}
use Rattle.fluent_c_handles.proofs.calls.add.AddCall.done.Goals as goal

pub returns-in-Ok-put : goal.returns-in-Ok-put
returns-in-Ok-put c = (
  c.in-Ok.ensures.text,
  c.in-Ok-put.ensures.ok ∙ (ap (λ source. added_to source (stock_content c.read.new.self)) c.in-Ok.ensures.ok.0.0 ∙ ap (added_to c.args.self.now.source.now) c.read.ensures.left),
)
