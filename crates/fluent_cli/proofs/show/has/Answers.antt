use Rattle.std.proofs.Common.{◌∙◌, None, Some}
use Rattle.std.specs.Prelude.{is_some}
use Rattle.fluent_fallback.specs.Chain.{pattern_asked, bundles_of}
use Rattle.fluent_check.specs.Bundles.{bundle_view}
use Rattle.fluent_cli.proofs.Anywhere.{any_mapped}
use Rattle.fluent_cli.proofs.show.has.Goals as goal

pub returns-in-Some : goal.returns-in-Some
returns-in-Some c =
    let asked = pattern_asked c.args.request.now.id.now (Some c.in-Some.name) in
    rw c.in-Some.is (c.has_attribute.ensures ∙ any_mapped (λ b. is_some (asked b)) bundle_view (bundles_of c.args.texts.now))

pub returns-in-None : goal.returns-in-None
returns-in-None c =
    let asked = pattern_asked c.args.request.now.id.now None in
    rw c.in-None.is (c.has_value.ensures ∙ any_mapped (λ b. is_some (asked b)) bundle_view (bundles_of c.args.texts.now))
