use Rattle.std.proofs.Common.{rules, ◌≡◌, false, is_ok, refl}
use Rattle.fluent_end_to_end_laws.proofs.Nothing.{gives_in, gives_none, of_ok}
use Rattle.fluent_end_to_end_laws.proofs.format_after.Goals as goal

pub returns-in_err-resources : goal.returns-in_err-resources
returns-in_err-resources g c =
    let faulted : is_ok c.from_residual.result ≡ false = search rules in
    gives_none _ _ _ _ _ _ faulted refl

pub returns-in_err-bundle : goal.returns-in_err-bundle
returns-in_err-bundle g c =
    let faulted : is_ok c.from_residual-in_err-bundle.result ≡ false = search rules in
    gives_none _ _ _ _ _ _ faulted refl

pub returns : goal.returns
returns g c =
    gives_in _ _ _ _ _ _ _ (of_ok _ _ _ c.in_ok-bundle.was c.bundle_over.ensures) (record {
      within = c.format_pattern.ensures.within;
      whole = c.format_pattern.ensures.whole;
      prefix = c.format_pattern.ensures.prefix;
    })
