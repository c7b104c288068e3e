use Rattle.std.proofs.Common.{[], ◌∷◌, sym, subst}
use Rattle.std.proofs.lemmas.Result.{on_ok_weaker}
use Rattle.fluent_ast.specs.View.{entry_view}
use Rattle.fluent_c_handles.specs.Inside.Seen.{GoesOver}
use Rattle.fluent_c_handles.proofs.Going.{goes_message, goes_term}
use Rattle.fluent_c_handles.proofs.left.add_entry.Goals as goal

pub returns-in-Message : goal.returns-in-Message
returns-in-Message g c = on_ok_weaker c.add_id.result (λ go. subst (λ e. GoesOver c.args.ids.now c.args.k (entry_view e ∷ []) c.args.seen.now c.add_id.new.seen) (sym c.in-Message.is) (goes_message c.args.ids.now c.args.k _ _ _ c.args.seen.now c.add_id.new.seen go)) c.add_id.ensures

pub returns-in-Term : goal.returns-in-Term
returns-in-Term g c = on_ok_weaker c.add_id-in-Term.result (λ go. subst (λ e. GoesOver c.args.ids.now c.args.k (entry_view e ∷ []) c.args.seen.now c.add_id-in-Term.new.seen) (sym c.in-Term.is) (goes_term c.args.ids.now c.args.k _ _ _ c.args.seen.now c.add_id-in-Term.new.seen go)) c.add_id-in-Term.ensures
