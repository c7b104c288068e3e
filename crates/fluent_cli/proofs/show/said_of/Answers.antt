use Rattle.std.proofs.Common.{◌≡◌, ◌∙◌, ◌++◌, ap, append_assoc, rules, string_bytes}
use Rattle.fluent_resolver_state.specs.Status.{reported}
use Rattle.fluent_cli_report.specs.Reported.{fault_lines}
use Rattle.fluent_cli.specs.Shown.{error_lines, missing_line}
use Rattle.fluent_cli.proofs.show.said_of.Goals as goal

pub returns : goal.returns
returns c =
    let beside = fault_lines c.args.inputs.now.beside in
    let own = fault_lines c.args.inputs.now.sources in
    let errors = error_lines (reported c.args.errors.now) in
    let missing = missing_line c.args.request.now c.args.is_there in
    let faults : string_bytes c.push_str.new.self ≡ beside ++ own = search rules in
    c.in_ok-say_missing.ensures ∙ (ap (λ t. t ++ missing) (c.in_ok-say_errors.ensures ∙ ap (λ t. t ++ errors) faults) ∙ append_assoc (beside ++ own) errors missing)
