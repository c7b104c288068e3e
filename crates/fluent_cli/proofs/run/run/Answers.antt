use Rattle.std.proofs.Common.{◌≡◌, ◌∙◌, ◌++◌, ap, rules, subst}
use Rattle.std.proofs.lemmas.Result.{IfOk-weaker}
use Rattle.fluent_cli_report.specs.Unread.{unread_views}
use Rattle.fluent_cli.specs.Inputs.{HasRead, readable}
use Rattle.fluent_cli.specs.Runs.{GivesOver, Runs, are_pairs}
use Rattle.fluent_cli.proofs.run.run.Goals as goal

pub returns : goal.returns
returns c =
    let request = c.args.request.now in
    let beside = c.args.beside.now in
    let files = c.args.files.now in
    let references = c.args.references.now in
    let inputs = c.in_ok-inputs.inputs in
    let unread = unread_views c.as_slice.result.now in
    let noted : unread ≡ (readable c.are_pairs.result beside files references).unread = search rules in
    let is : unread ≡ (readable (are_pairs request) beside files references).unread =
    noted ∙ ap (λ paired. (readable paired beside files references).unread) c.are_pairs.ensures in
    IfOk-weaker c.answer_over.result (GivesOver request inputs unread) (Runs request beside files references)
    (λ answer gives. record {
      inputs = inputs;
      has_read = subst (λ paired. HasRead (readable paired beside files references) inputs) c.are_pairs.ensures c.in_ok-inputs.ensures.read;
      gives = subst (λ unread. GivesOver request inputs unread answer) is gives;
    }) c.answer_over.ensures
