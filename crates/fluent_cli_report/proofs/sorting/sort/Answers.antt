use Rattle.std.proofs.Common.{rules}
use Rattle.std.proofs.lemmas.List.Sorted.{answers_always}
use Rattle.std.proofs.lemmas.Result.{on_ok_weaker}
use Rattle.fluent_cli_report.proofs.InOrder.{key_of, put_in_order}
use Rattle.fluent_cli_report.proofs.sorting.sort.Goals as goal

pub returns : goal.returns
returns c =
    let keys = answers_always _ _ _ (λ f a r next called. search rules) in
    let stable = c.sort_by_key.ensures.stable key_of keys in
    on_ok_weaker c.sort_by_key.result (λ sorted. put_in_order _ _ (sorted key_of keys) stable) c.sort_by_key.ensures.sorted
