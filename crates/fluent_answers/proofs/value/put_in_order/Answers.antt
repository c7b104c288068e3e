use Rattle.std.proofs.Common.{rules}
use Rattle.std.proofs.lemmas.List.Sorted.{answers_always}
use Rattle.fluent_answers.proofs.InOrder.{same_values}
use Rattle.fluent_answers.proofs.value.put_in_order.Goals as goal

pub returns : goal.returns
returns c = same_values _ _ (c.in_ok-sort_by_key.ensures.stable (λ a. a.name) (answers_always _ _ _ (λ f a r g h. search rules)))
