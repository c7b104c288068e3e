use Rattle.std.proofs.Common.{◌≡◌, ◌∷◌, [], List, subst}
use Rattle.std.specs.Result.{IfOk}
use Rattle.std.specs.Cow.{cow_str_bytes}
use Rattle.fluent_ast.specs.Tree.{Text, Entry}
use Rattle.fluent_semantics.specs.Bundle.{Bundle}
use Rattle.fluent_semantics.specs.Value.{Plurals}
use Rattle.fluent_resource.specs.ResourceView.{entries_of}
use Rattle.fluent_fallback.specs.Chain.{chain_value}
use Rattle.fluent_show_cli.specs.Program.{line, Run, after_errors, arguments_of, both_adding_errors, bundle_of, run_both, run_chain}
use Rattle.fluent_show_words.specs.Words.{Asked}
use Rattle.fluent_show_words.specs.WordsView.{asked_view}
use Rattle.fluent_show_words.specs.PluralsView.{plurals_view}
use Rattle.fluent_show_cli.specs.Inside.BundleView.{bundle_view}
use Rattle.fluent_show_cli.specs.Inside.OutputProgress.{Added}
use Rattle.fluent_show_cli.proofs.Adding.{added_short, added_then}
use Rattle.fluent_show_cli.proofs.Faults.{not_ok}
use Rattle.fluent_show_cli.proofs.show.both_text.Goals as goal

-- a run in two bundles, after what was found before
abbrev run_over : Asked → Plurals → List Entry → List Entry → Bundle Text → Bundle Text → Run
run_over asked plurals es fs a b =
    after_errors (both_adding_errors plurals asked.options.isolate es fs) (run_chain (chain_value asked.id (arguments_of asked.arguments) (a ∷ b ∷ [])))

-- what holds of it holds of the entries, where the bundles are those of them
of_entries : (P : Run → Type 0) (asked : Asked) (plurals : Plurals) (es fs : List Entry) (a b : Bundle Text) → a ≡ bundle_of plurals asked.options.isolate es → b ≡ bundle_of plurals asked.options.isolate fs
    → P (run_over asked plurals es fs a b) → P (run_both asked plurals es fs)
of_entries P asked plurals es fs a b first second h =
    subst (λ w. P (run_over asked plurals es fs (bundle_of plurals asked.options.isolate es) w)) second (subst (λ w. P (run_over asked plurals es fs w b)) first h)

pub returns-clause-text : goal.returns-clause-text
returns-clause-text c =
    of_entries (λ run. IfOk c.chain_text.result (λ text. line (cow_str_bytes text) ≡ run.output))
    (asked_view c.args.task.request) (plurals_view c.args.task.plurals) (entries_of c.args.first.now) (entries_of c.args.second.now) (bundle_view c.in_ok-first.first) (bundle_view c.in_ok-second.second)
    c.in_ok-first.ensures.bundle c.in_ok-second.ensures.bundle c.chain_text.ensures.text

pub returns-clause-errors : goal.returns-clause-errors
returns-clause-errors c =
    of_entries (λ run. Added c.chain_text.result run.errors c.args.errors.now.items c.chain_text.new.errors.items)
    (asked_view c.args.task.request) (plurals_view c.args.task.plurals) (entries_of c.args.first.now) (entries_of c.args.second.now) (bundle_view c.in_ok-first.first) (bundle_view c.in_ok-second.second)
    c.in_ok-first.ensures.bundle c.in_ok-second.ensures.bundle
    (added_then c.bundle_of-2.result c.chain_text.result _ _ _ _ _ _ c.in_ok-second.was
    (added_then c.bundle_of.result c.bundle_of-2.result _ _ _ _ _ _ c.in_ok-first.was c.bundle_of.ensures.errors c.bundle_of-2.ensures.errors)
    c.chain_text.ensures.errors)

pub returns-in_err-second-clause-errors : goal.returns-in_err-second-clause-errors
returns-in_err-second-clause-errors c =
    let faulted = not_ok c.from_residual-in_err-second.result c.from_residual-in_err-second.ensures.0 in
    added_short c.bundle_of-2.result c.from_residual-in_err-second.result _ _ _ _ faulted
    (added_then c.bundle_of.result c.bundle_of-2.result _ _ _ _ _ _ c.in_ok-first.was c.bundle_of.ensures.errors c.bundle_of-2.ensures.errors)

pub returns-in_err-first-clause-errors : goal.returns-in_err-first-clause-errors
returns-in_err-first-clause-errors c =
    let faulted = not_ok c.from_residual.result c.from_residual.ensures.0 in
    added_short c.from_residual.result c.from_residual.result _ _ _ _ faulted
    (added_short c.bundle_of.result c.from_residual.result _ _ _ _ faulted c.bundle_of.ensures.errors)
