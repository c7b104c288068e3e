use Rattle.std.proofs.Common.{rules, ◌≡◌, false, is_ok, refl}
use Rattle.fluent_end_to_end_laws.proofs.Nothing.{of_ok, writes_in, writes_none}
use Rattle.fluent_end_to_end_laws.proofs.write_after.Goals as goal

pub returns-in_err-resources-clause-text : goal.returns-in_err-resources-clause-text
returns-in_err-resources-clause-text g c =
    let faulted : is_ok c.from_residual.result ≡ false = search rules in
    writes_none _ _ _ _ _ _ _ _ faulted refl refl

pub returns-in_err-bundle-clause-text : goal.returns-in_err-bundle-clause-text
returns-in_err-bundle-clause-text g c =
    let faulted : is_ok c.from_residual-in_err-bundle.result ≡ false = search rules in
    writes_none _ _ _ _ _ _ _ _ faulted refl refl

pub returns-clause-text : goal.returns-clause-text
returns-clause-text g c =
    writes_in _ _ _ _ _ _ _ _ _ (of_ok _ _ _ c.in_ok-bundle.was c.bundle_over.ensures) (record {
      within = c.write_pattern.ensures.within;
      whole = c.write_pattern.ensures.whole;
      prefix = c.write_pattern.ensures.prefix;
    })
