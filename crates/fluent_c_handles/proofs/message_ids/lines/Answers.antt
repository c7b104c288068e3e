use Rattle.std.proofs.Common.{◌∙◌, ap, sym, ◌++◌, ◌∷◌, []}
use Rattle.fluent_c_handles.proofs.Line.{lines_more}
use Rattle.fluent_c_handles.proofs.message_ids.lines.Goals as goal

pub loop-id-preserved : goal.loop-id-preserved
loop-id-preserved c = c.in_ok-push_str-2.ensures.bytes ∙ ap (λ t. t ++ 10 ∷ []) (c.in_ok-push_str.ensures.bytes ∙ ap (λ t. t ++ c.in-Some.id.now) c.loop-id.invariant) ∙ sym (lines_more c.loop-id.yielded c.in-Some.id)
