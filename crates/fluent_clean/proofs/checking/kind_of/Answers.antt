use Rattle.std.proofs.Common.{sym, subst}
use Rattle.fluent_ast.specs.View.{attribute_of, call_view}
use Rattle.fluent_places.specs.Needs.{names_set}
use Rattle.fluent_places.specs.NeedsView.{need_view}
use Rattle.fluent_clean.specs.Inside.Steps.{Answers}
use Rattle.fluent_clean.proofs.Explained.{answers_message, answers_term}
use Rattle.fluent_clean.proofs.checking.kind_of.Goals as goal

pub returns-in-Message : goal.returns-in-Message
returns-in-Message g c =
    let named = g.B.GetEntry.named c.args.bundle.now in
    let known = c.args.table.now.entries in
    subst (λ n. Answers named known (need_view n) c.kind_at.result) (sym c.in-Message.is) (answers_message named known c.in-Message.id.name.now (attribute_of c.in-Message.attribute) _ c.kind_at.ensures)

pub returns-in-Term : goal.returns-in-Term
returns-in-Term g c =
    let named = g.B.GetEntry.named c.args.bundle.now in
    let known = c.args.table.now.entries in
    subst (λ n. Answers named known (need_view n) c.kind_at-in-Term.result) (sym c.in-Term.is)
    (answers_term named known c.in-Term.id.name.now (attribute_of c.in-Term.attribute) (names_set (call_view c.in-Term.field-2.now)) _ c.kind_at-in-Term.ensures)
