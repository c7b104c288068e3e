use Rattle.std.proofs.Common.{◌≡◌, ◌++◌, ◌⊎◌, refl, List, Err, IfOk, subst}
use Rattle.std.specs.Result.{IfErr}
use Rattle.fluent_ast.specs.Tree.{Text, Entry}
use Rattle.fluent_syntax.specs.Chunks.{entries}
use Rattle.fluent_text.specs.Writer.{writer_in}
use Rattle.fluent_text.specs.declared.counting.WriteFault.TheVariants.{Memory}
use Rattle.fluent_semantics.specs.Bundle.{Bundle}
use Rattle.fluent_semantics.specs.Errors.{Error}
use Rattle.fluent_semantics.specs.Value.{Plurals}
use Rattle.fluent_resolver_state.specs.Status.{reported}
use Rattle.fluent_bundle.specs.BundleView.{value_at}
use Rattle.fluent_resource.specs.ResourceView.{entries_of}
use Rattle.fluent_show_cli.specs.Program.{Run, adding_errors, after_errors, bundle_of, in_pieces, junk_errors, run_alone, run_entries, run_value}
use Rattle.fluent_show_cli.specs.Runs.{ending_view}
use Rattle.fluent_show_words.specs.Words.{Asked}
use Rattle.fluent_show_words.specs.WordsView.{asked_view}
use Rattle.fluent_show_words.specs.PluralsView.{plurals_view}
use Rattle.fluent_show_cli.specs.Inside.BundleView.{bundle_view}
use Rattle.fluent_show_cli.specs.Inside.OutputProgress.{Added, Stops, Took, TookPart}
use Rattle.fluent_show_cli.proofs.Adding.{added_short, added_then, adds_then, whole_added}
use Rattle.fluent_show_cli.proofs.Faults.{counts_none, not_ok, passed, took_none}
use Rattle.fluent_show_cli.proofs.Stopping.{stops_before, stops_later}
use Rattle.fluent_show_cli.proofs.show.show_alone.Goals as goal

-- a run in a bundle, after what was found before
abbrev run_over : Asked → Plurals → Text → List Entry → Bundle Text → Run
run_over asked plurals source es bundle =
    after_errors (junk_errors source) (after_errors (adding_errors plurals asked.options.isolate es) (run_value asked bundle (value_at asked.id bundle)))

abbrev found_over : Asked → Plurals → Text → List Entry → List Error
found_over asked plurals source es = junk_errors source ++ adding_errors plurals asked.options.isolate es

-- what holds of it holds of the source, where the bundle is that of its entries
of_source : (P : Run → List Error → Type 0) (asked : Asked) (plurals : Plurals) (source : Text) (es : List Entry) (bundle : Bundle Text) → es ≡ entries source → bundle ≡ bundle_of plurals asked.options.isolate es
    → P (run_over asked plurals source es bundle) (found_over asked plurals source es) → P (run_alone asked plurals source) (found_over asked plurals source (entries source))
of_source P asked plurals source es bundle read made h =
    subst (λ w. P (after_errors (junk_errors source) (run_entries asked plurals w)) (found_over asked plurals source w)) read
    (subst (λ b. P (run_over asked plurals source es b) (found_over asked plurals source es)) made h)

pub returns-clause-text : goal.returns-clause-text
returns-clause-text g c =
    let contents = g.W.Write.contents in
    of_source (λ run found. Took c.show_value.result run.output (contents (writer_in c.args.out.now)) (contents (writer_in c.show_value.new.out)))
    (asked_view c.args.task.request) (plurals_view c.args.task.plurals) c.args.source.now (entries_of c.in_ok-resource.resource) (bundle_view c.in_ok-bundle.bundle)
    c.in_ok-resource.ensures.entries c.in_ok-bundle.ensures.bundle c.show_value.ensures.text

pub returns-clause-part : goal.returns-clause-part
returns-clause-part g c =
    let contents = g.W.Write.contents in
    of_source (λ run found. c.show_value.result ≡ Err Memory → (c.show_value.new.out ≡ c.args.out.now) ⊎ TookPart run.output (contents (writer_in c.args.out.now)) (contents (writer_in c.show_value.new.out)))
    (asked_view c.args.task.request) (plurals_view c.args.task.plurals) c.args.source.now (entries_of c.in_ok-resource.resource) (bundle_view c.in_ok-bundle.bundle)
    c.in_ok-resource.ensures.entries c.in_ok-bundle.ensures.bundle c.show_value.ensures.part

pub returns-clause-errors : goal.returns-clause-errors
returns-clause-errors g c =
    of_source (λ run found. Added c.show_value.result run.errors c.args.errors.now.items c.show_value.new.errors.items)
    (asked_view c.args.task.request) (plurals_view c.args.task.plurals) c.args.source.now (entries_of c.in_ok-resource.resource) (bundle_view c.in_ok-bundle.bundle)
    c.in_ok-resource.ensures.entries c.in_ok-bundle.ensures.bundle
    (added_then c.read.result c.show_value.result _ _ _ _ _ _ c.in_ok-resource.was c.read.ensures.errors
    (added_then c.bundle_of.result c.show_value.result _ _ _ _ _ _ c.in_ok-bundle.was c.bundle_of.ensures.errors c.show_value.ensures.errors))

pub returns-clause-stops : goal.returns-clause-stops
returns-clause-stops g c =
    let before = adds_then _ _ _ _ _ (whole_added c.read.result _ _ _ _ c.in_ok-resource.was c.read.ensures.errors) (whole_added c.bundle_of.result _ _ _ _ c.in_ok-bundle.was c.bundle_of.ensures.errors) in
    of_source (λ run found. IfErr c.show_value.result (Stops run.ending (in_pieces found) (reported c.show_value.new.errors.items) c.args.out.now c.show_value.new.out))
    (asked_view c.args.task.request) (plurals_view c.args.task.plurals) c.args.source.now (entries_of c.in_ok-resource.resource) (bundle_view c.in_ok-bundle.bundle)
    c.in_ok-resource.ensures.entries c.in_ok-bundle.ensures.bundle
    (stops_later c.show_value.result _ _ _ _ _ _ _ _ c.requires before c.show_value.ensures.errors c.show_value.ensures.stops)

pub returns-clause-ending : goal.returns-clause-ending
returns-clause-ending g c =
    of_source (λ run found. IfOk c.show_value.result (λ ending. ending_view ending ≡ run.ending))
    (asked_view c.args.task.request) (plurals_view c.args.task.plurals) c.args.source.now (entries_of c.in_ok-resource.resource) (bundle_view c.in_ok-bundle.bundle)
    c.in_ok-resource.ensures.entries c.in_ok-bundle.ensures.bundle c.show_value.ensures.ending

pub returns-clause-fault : goal.returns-clause-fault
returns-clause-fault g c = c.show_value.ensures.fault

pub returns-in_err-bundle-clause-text : goal.returns-in_err-bundle-clause-text
returns-in_err-bundle-clause-text g c = took_none c.from_residual-in_err-bundle.result _ _ c.from_residual-in_err-bundle.ensures.0

pub returns-in_err-bundle-clause-fault : goal.returns-in_err-bundle-clause-fault
returns-in_err-bundle-clause-fault g c = counts_none c.from_residual-in_err-bundle.result c.args.out.now (passed _ Memory c.from_residual-in_err-bundle.ensures.1)

pub returns-in_err-bundle-clause-errors : goal.returns-in_err-bundle-clause-errors
returns-in_err-bundle-clause-errors g c =
    let faulted = not_ok c.from_residual-in_err-bundle.result c.from_residual-in_err-bundle.ensures.0 in
    let asked = asked_view c.args.task.request in
    let plurals = plurals_view c.args.task.plurals in
    let of = bundle_of plurals asked.options.isolate (entries_of c.in_ok-resource.resource) in
    of_source (λ run found. Added c.from_residual-in_err-bundle.result run.errors c.args.errors.now.items c.bundle_of.new.errors.items)
    asked plurals c.args.source.now (entries_of c.in_ok-resource.resource) of c.in_ok-resource.ensures.entries refl
    (added_then c.read.result c.from_residual-in_err-bundle.result _ _ _ _ _ _ c.in_ok-resource.was c.read.ensures.errors
    (added_short c.bundle_of.result c.from_residual-in_err-bundle.result _ _ _ _ faulted c.bundle_of.ensures.errors))

pub returns-in_err-bundle-clause-stops : goal.returns-in_err-bundle-clause-stops
returns-in_err-bundle-clause-stops g c = stops_before c.from_residual-in_err-bundle.result _ _ _ _ _ (passed _ Memory c.from_residual-in_err-bundle.ensures.1) refl

pub returns-in_err-resource-clause-stops : goal.returns-in_err-resource-clause-stops
returns-in_err-resource-clause-stops g c = stops_before c.from_residual.result _ _ _ _ _ (passed _ Memory c.from_residual.ensures.1) refl

pub returns-in_err-resource-clause-text : goal.returns-in_err-resource-clause-text
returns-in_err-resource-clause-text g c = took_none c.from_residual.result _ _ c.from_residual.ensures.0

pub returns-in_err-resource-clause-errors : goal.returns-in_err-resource-clause-errors
returns-in_err-resource-clause-errors g c =
    added_short c.read.result c.from_residual.result _ _ _ _ (not_ok c.from_residual.result c.from_residual.ensures.0) c.read.ensures.errors

pub returns-in_err-resource-clause-fault : goal.returns-in_err-resource-clause-fault
returns-in_err-resource-clause-fault g c = counts_none c.from_residual.result c.args.out.now (passed _ Memory c.from_residual.ensures.1)
