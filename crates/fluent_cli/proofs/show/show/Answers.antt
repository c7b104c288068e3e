use Rattle.std.proofs.Common.{◌≡◌, ◌∙◌, ◌++◌, ap, map, rules, string_bytes, subst}
use Rattle.fluent_places.specs.Asked.{texts}
use Rattle.fluent_fallback.specs.Chain.{bundles_of}
use Rattle.fluent_resolver_state.specs.Status.{reported}
use Rattle.fluent_sources.specs.Reading.{entries_read}
use Rattle.fluent_check.specs.Bundles.{bundle_view, resource_bundle}
use Rattle.fluent_cli.specs.Shown.{ShowsBy, bundles_for, is_there, said_of, shown_by}
use Rattle.fluent_cli.proofs.Loaded.{each_loaded}
use Rattle.fluent_cli.proofs.show.show.Goals as goal

pub returns : goal.returns
returns c =
    let request = c.args.request.now in
    let inputs = c.args.inputs.now in
    let resources = inputs.sources.resources.items in
    let beside = entries_read inputs.beside in
    let functions = texts request.functions.items in
    let bundles = map bundle_view (bundles_of c.of-texts.result) in
    let same : bundles_of c.of-texts.result ≡ c.in_ok-bundles.bundles.items = search rules in
    let each : bundles ≡ map (resource_bundle request.language.now functions beside) resources = ap (map bundle_view) same ∙ search rules in
    let means : bundles ≡ bundles_for request beside (entries_read inputs.sources) = each ∙ each_loaded request.language.now functions beside resources in
    let shown = shown_by request bundles in
    let said = c.in_ok-said.said in
    let wrong : reported c.as_slice-5.result.now ≡ shown.errors =
    ap reported c.as_slice-5.ensures.value ∙ (c.in_ok-output.ensures.errors.added ∙ ap (λ errors. reported errors ++ shown.errors) c.new-errors.ensures.items) in
    let says : string_bytes said ≡ said_of request inputs shown.errors (is_there request bundles) =
    c.in_ok-said.ensures ∙ (ap (λ errors. said_of request inputs errors c.has-is_there.result) wrong ∙ ap (λ there. said_of request inputs shown.errors there) c.has-is_there.ensures) in
    subst (λ bundles. ShowsBy request inputs bundles (record { status = c.status_of.result; output = c.push_str.new.self; errors = said })) means
    (record { output = search rules; errors = says; status = search rules })
