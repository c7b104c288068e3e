use Rattle.std.proofs.Common.{◌≡◌, ◌∙◌, ap, map, List, ℕ, is_ok, refl, sym}
use Rattle.std.proofs.lemmas.Simd.{map-map}
use Rattle.fluent_syntax.specs.Parsed.{error_range}
use Rattle.fluent_ast.specs.declared.errors.ParserError.{ParserError}
use Rattle.fluent_show_cli.specs.Program.{error_at}
use Rattle.fluent_show_cli.proofs.Adding.{added_nothing, recast}
use Rattle.fluent_show_cli.proofs.Faults.{not_ok}
use Rattle.fluent_show_cli.proofs.show.read.Goals as goal

-- the errors of the code are those of the ranges
of_ranges : (slice found : List ParserError) (ranges : List (ℕ × ℕ)) → slice ≡ found → map error_range found ≡ ranges → map (λ e. error_at (error_range e)) slice ≡ map error_at ranges
of_ranges slice found ranges same e = ap (map (λ e. error_at (error_range e))) same ∙ sym (map-map error_at error_range found) ∙ ap (map error_at) e

pub returns-in_err-report_junk-clause-errors : goal.returns-in_err-report_junk-clause-errors
returns-in_err-report_junk-clause-errors c =
    let faulted = not_ok c.from_residual-in_err-report_junk.result c.from_residual-in_err-report_junk.ensures.0 in
    recast _ _ _ _ _ _ (faulted ∙ sym (ap is_ok c.in_err-report_junk.was)) (of_ranges _ _ _ c.as_slice.ensures.value c.in_ok-resource.ensures.read.1) c.report_junk.ensures

pub returns-clause-errors : goal.returns-clause-errors
returns-clause-errors c =
    recast _ _ _ _ _ _ (sym (ap is_ok c.in_ok-report_junk.was)) (of_ranges _ _ _ c.as_slice.ensures.value c.in_ok-resource.ensures.read.1) c.report_junk.ensures

pub returns-clause-entries : goal.returns-clause-entries
returns-clause-entries c = c.in_ok-resource.ensures.read.0.1

pub returns-in_err-resource-clause-errors : goal.returns-in_err-resource-clause-errors
returns-in_err-resource-clause-errors c = added_nothing c.from_residual.result _ c.args.errors.now.items _ (not_ok c.from_residual.result c.from_residual.ensures.0) refl
