use Rattle.std.proofs.Common.{◌≡◌, List, subst}
use Rattle.std.specs.Result.{IfOk}
use Rattle.std.specs.Cow.{cow_str_bytes}
use Rattle.fluent_ast.specs.Tree.{Text, Entry}
use Rattle.fluent_syntax.specs.Chunks.{entries}
use Rattle.fluent_semantics.specs.Value.{Plurals}
use Rattle.fluent_resource.specs.ResourceView.{entries_of}
use Rattle.fluent_show_cli.specs.Program.{line, Run, after_errors, both_junk_errors, run_both, run_fallback}
use Rattle.fluent_show_words.specs.Words.{Asked}
use Rattle.fluent_show_words.specs.WordsView.{asked_view}
use Rattle.fluent_show_words.specs.PluralsView.{plurals_view}
use Rattle.fluent_show_cli.specs.Inside.OutputProgress.{Added}
use Rattle.fluent_show_cli.proofs.Adding.{added_short, added_then}
use Rattle.fluent_show_cli.proofs.Faults.{not_ok}
use Rattle.fluent_show_cli.proofs.show.fallback_text.Goals as goal

-- a run over entries, after what was found before
abbrev run_over : Asked → Plurals → Text → Text → List Entry → List Entry → Run
run_over asked plurals source other es fs = after_errors (both_junk_errors source other) (run_both asked plurals es fs)

-- what holds of it holds of the sources, where the entries are those of them
of_sources : (P : Run → Type 0) (asked : Asked) (plurals : Plurals) (source other : Text) (es fs : List Entry) → es ≡ entries source → fs ≡ entries other
    → P (run_over asked plurals source other es fs) → P (run_fallback asked plurals source other)
of_sources P asked plurals source other es fs first second h =
    subst (λ w. P (run_over asked plurals source other (entries source) w)) second (subst (λ w. P (run_over asked plurals source other w fs)) first h)

pub returns-clause-text : goal.returns-clause-text
returns-clause-text c =
    of_sources (λ run. IfOk c.both_text.result (λ text. line (cow_str_bytes text) ≡ run.output))
    (asked_view c.args.task.request) (plurals_view c.args.task.plurals) c.args.source.now c.args.other.now (entries_of c.in_ok-first.first) (entries_of c.in_ok-second.second)
    c.in_ok-first.ensures.entries c.in_ok-second.ensures.entries c.both_text.ensures.text

pub returns-clause-errors : goal.returns-clause-errors
returns-clause-errors c =
    of_sources (λ run. Added c.both_text.result run.errors c.args.errors.now.items c.both_text.new.errors.items)
    (asked_view c.args.task.request) (plurals_view c.args.task.plurals) c.args.source.now c.args.other.now (entries_of c.in_ok-first.first) (entries_of c.in_ok-second.second)
    c.in_ok-first.ensures.entries c.in_ok-second.ensures.entries
    (added_then c.read-2.result c.both_text.result _ _ _ _ _ _ c.in_ok-second.was
    (added_then c.read.result c.read-2.result _ _ _ _ _ _ c.in_ok-first.was c.read.ensures.errors c.read-2.ensures.errors)
    c.both_text.ensures.errors)

pub returns-in_err-second-clause-errors : goal.returns-in_err-second-clause-errors
returns-in_err-second-clause-errors c =
    let faulted = not_ok c.from_residual-in_err-second.result c.from_residual-in_err-second.ensures.0 in
    added_short c.read-2.result c.from_residual-in_err-second.result _ _ _ _ faulted
    (added_then c.read.result c.read-2.result _ _ _ _ _ _ c.in_ok-first.was c.read.ensures.errors c.read-2.ensures.errors)

pub returns-in_err-first-clause-errors : goal.returns-in_err-first-clause-errors
returns-in_err-first-clause-errors c =
    let faulted = not_ok c.from_residual.result c.from_residual.ensures.0 in
    added_short c.from_residual.result c.from_residual.result _ _ _ _ faulted
    (added_short c.read.result c.from_residual.result _ _ _ _ faulted c.read.ensures.errors)
