use Rattle.std.proofs.Common.{◌∙◌, ap, sym, is_some, string_bytes}
use Rattle.fluent_semantics.specs.Arguments.{get}
use Rattle.fluent_bundle_entries.specs.EntryView.{entry_of, ids}
use Rattle.fluent_answers.specs.Asked.{function_of}
use Rattle.fluent_c_handles.specs.Answers.{bundle_view, declared_view}
use Rattle.fluent_c_handles.proofs.Going.{some_mapped}
use Rattle.fluent_c_handles.proofs.Stocks.{taken_kept}
use Rattle.fluent_c_handles.proofs.stock.Stock.is_taken.Goals as goal

pub returns : goal.returns
returns c =
    let it = c.args.self.now in
    let id = c.args.id.now in
    c.is_some.ensures
    ∙ (some_mapped (λ e. entry_of function_of e.now) c.named.result (get id (ids function_of c.ids.result.now)) (c.named.ensures.content function_of)
    ∙ (ap (λ k. is_some (get id (ids function_of k))) c.ids.ensures
    ∙ sym (taken_kept id (declared_view it.declared) (bundle_view it.bundle) (string_bytes it.told))))
