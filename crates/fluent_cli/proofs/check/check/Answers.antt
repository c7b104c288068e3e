use Rattle.std.proofs.lemmas.Result.{IfOk-weaker}
use Rattle.fluent_cli_report.specs.Unread.{unread_views}
use Rattle.fluent_cli.specs.Checked.{IsChecked, IsReported}
use Rattle.fluent_cli.proofs.check.check.Goals as goal

pub returns : goal.returns
returns c =
    let request = c.args.request.now in
    let inputs = c.args.inputs.now in
    let unread = unread_views c.args.unread.now in
    let found = c.in_ok-found.found in
    IfOk-weaker c.reported.result (IsReported request inputs unread found) (IsChecked request inputs unread)
    (λ answer reported. record { found = found; finds = c.in_ok-found.ensures; reported = reported }) c.reported.ensures
