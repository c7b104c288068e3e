use Rattle.std.proofs.Common.{◌∙◌, ◌++◌, ap, map}
use Rattle.std.proofs.lemmas.List.{take_all}
use Rattle.fluent_syntax.specs.Parsed.{error_range}
use Rattle.fluent_ast.specs.declared.errors.ParserError.{ParserError}
use Rattle.fluent_semantics.specs.Errors.{Error}
use Rattle.fluent_resolver_state.specs.Status.{reported}
use Rattle.fluent_show_cli.specs.Program.{error_at}
use Rattle.fluent_show_cli.proofs.Adding.{added_by, first_added, more_added}
use Rattle.fluent_show_cli.proofs.show.report_junk.Goals as goal

abbrev junk_error : ParserError → Error
junk_error e = error_at (error_range e)

pub loop-error-preserved : goal.loop-error-preserved
loop-error-preserved c =
    more_added junk_error c.args.found.now c.loop-error.error-index _ c.from.result c.args.errors.now.items c.loop-error.errors.items _ c.loop-error-test.true c.from.ensures c.in_ok-push.ensures.items c.loop-error.invariant

pub returns-in_err-push : goal.returns-in_err-push
returns-in_err-push c =
    first_added junk_error c.from_residual.result c.args.found.now c.loop-error.error-index _ _ c.from_residual.ensures.0 (ap reported c.in_err-push.ensures.items ∙ c.loop-error.invariant)

pub returns : goal.returns
returns c =
    let all = take_all c.loop-error.error-index c.args.found.now c.loop-error-test.false in
    added_by _ _ c.args.errors.now.items _ (c.loop-error.invariant ∙ ap (λ w. reported c.args.errors.now.items ++ map junk_error w) all)
