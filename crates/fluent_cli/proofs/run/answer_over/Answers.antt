use Rattle.std.proofs.Common.{◌≡◌, ◌∙◌, ◌++◌, true, false, ap, refl, rules, string_bytes, subst, sym}
use Rattle.std.proofs.lemmas.Result.{IfOk-weaker}
use Rattle.fluent_cli_report.specs.Unread.{unread_lines, unread_views}
use Rattle.fluent_cli.specs.Runs.{GivesAfter, GivesBy, GivesOver, is_lost}
use Rattle.fluent_cli.proofs.run.answer_over.Goals as goal

pub returns-then-is_lost : goal.returns-then-is_lost
returns-then-is_lost c =
    let request = c.args.request.now in
    let inputs = c.args.inputs.now in
    let unread = unread_views c.args.unread.now in
    let lost : true ≡ is_lost request inputs unread = sym c.if-is_lost.true ∙ c.is_lost.ensures in
    subst (λ lost. GivesBy lost request inputs unread c.says.result) lost
    (record { status = c.says.ensures.status; output = c.says.ensures.output; errors = c.says.ensures.errors ∙ c.in_ok-errors.ensures })

pub returns : goal.returns
returns c =
    let request = c.args.request.now in
    let inputs = c.args.inputs.now in
    let unread = unread_views c.args.unread.now in
    let lost : false ≡ is_lost request inputs unread = sym c.if-is_lost.false ∙ c.is_lost.ensures in
    IfOk-weaker c.answer_after.result (GivesAfter request inputs unread) (GivesOver request inputs unread)
    (λ answer gives. subst (λ lost. GivesBy lost request inputs unread answer) lost gives) c.answer_after.ensures
