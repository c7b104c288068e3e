use Rattle.std.proofs.Common.{rules, ◌≡◌, false, inr, is_ok, refl}
use Rattle.fluent_fallback.specs.Chain.{pattern_asked}
use Rattle.fluent_end_to_end_laws.proofs.Nothing.{finds_in, is_err, of_ok}
use Rattle.fluent_end_to_end_laws.proofs.format_by_id_after.Goals as goal

pub returns-in_err-resources : goal.returns-in_err-resources
returns-in_err-resources g c =
    let faulted : is_ok c.from_residual.result ≡ false = search rules in
    inr (is_err _ faulted, refl)

pub returns-in_err-bundle : goal.returns-in_err-bundle
returns-in_err-bundle g c =
    let faulted : is_ok c.from_residual-in_err-bundle.result ≡ false = search rules in
    inr (is_err _ faulted, refl)

pub returns : goal.returns
returns g c =
    finds_in _ _ _ (pattern_asked c.args.id.now c.args.name) _ _ _ (of_ok _ _ _ c.in_ok-bundle.was c.bundle_over.ensures) c.format_in.ensures
