use Rattle.std.proofs.Common.{◌≡◌, IfOk, [], string_bytes, sym, subst}
use Rattle.fluent_c_handles.specs.Answers.{bundle_view, declared_view}
use Rattle.fluent_c_handles.specs.Calls.Finding.{id_lines}
use Rattle.fluent_c_handles.proofs.Family.{ids_same}
use Rattle.fluent_c_handles.proofs.message_ids.listed_of.Goals as goal

pub returns : goal.returns
returns c = subst (λ ids. IfOk c.listed.result (λ text. string_bytes text ≡ id_lines ids)) (sym (ids_same [] (declared_view c.args.stock.now.declared) (bundle_view c.args.stock.now.bundle))) c.listed.ensures
