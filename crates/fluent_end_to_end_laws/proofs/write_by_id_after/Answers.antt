use Rattle.std.proofs.Common.{rules, ◌≡◌, false, inr, is_ok, refl}
use Rattle.fluent_fallback.specs.Chain.{pattern_asked}
use Rattle.fluent_end_to_end_laws.proofs.Nothing.{is_err, of_ok, writes_found_in}
use Rattle.fluent_end_to_end_laws.proofs.write_by_id_after.Goals as goal

pub returns-in_err-resources-clause-text : goal.returns-in_err-resources-clause-text
returns-in_err-resources-clause-text g c =
    let faulted : is_ok c.from_residual.result ≡ false = search rules in
    inr (is_err _ faulted, refl, refl)

pub returns-in_err-bundle-clause-text : goal.returns-in_err-bundle-clause-text
returns-in_err-bundle-clause-text g c =
    let faulted : is_ok c.from_residual-in_err-bundle.result ≡ false = search rules in
    inr (is_err _ faulted, refl, refl)

pub returns-clause-text : goal.returns-clause-text
returns-clause-text g c =
    writes_found_in _ _ _ (pattern_asked c.args.id.now c.args.name) _ g.W.Write.contents _ _ _ _ (of_ok _ _ _ c.in_ok-bundle.was c.bundle_over.ensures) c.write_in.ensures.text
