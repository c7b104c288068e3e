use Rattle.std.proofs.Common.{◌≡◌, ◌⊎◌, ◌∙◌, sym, ap, refl, is_ok, List, Option, Some, None, Result, Err, subst}
use Rattle.std.specs.Result.{IfErr}
use Rattle.fluent_ast.specs.Tree.{Text}
use Rattle.fluent_text.specs.Writer.{writer_in}
use Rattle.fluent_text.specs.declared.counting.WriteFault.{WriteFault}
use Rattle.fluent_text.specs.declared.counting.WriteFault.TheVariants.{Memory}
use Rattle.fluent_semantics.specs.Value.{Plurals}
use Rattle.fluent_resolver_state.specs.Status.{reported}
use Rattle.fluent_bundle_entries.specs.declared.errors.FluentError.{FluentError}
use Rattle.fluent_show_cli.specs.Program.{line, First, Run, all_first, first_alone, first_of_source, first_of_sources, run_alone, run_fallback, run_source, run_sources}
use Rattle.fluent_show_words.specs.Words.{Asked}
use Rattle.fluent_show_words.specs.WordsView.{asked_view, text_view}
use Rattle.fluent_show_words.specs.PluralsView.{plurals_view}
use Rattle.fluent_show_cli.specs.Inside.OutputProgress.{Added, Stops, Took, TookPart}
use Rattle.fluent_show_cli.proofs.Adding.{added_kept, added_to_none, whole_added}
use Rattle.fluent_show_cli.proofs.Faults.{never_memory, not_ok, passed, took_none}
use Rattle.fluent_show_cli.proofs.Stopping.{stops_whole}
use Rattle.fluent_show_cli.proofs.Taking.{took_recast}
use Rattle.fluent_show_cli.proofs.show.show.Goals as goal

-- what holds of the run with a fallback holds of the source, where there is one
of_fallback : (P : Run → First → Type 0) (asked : Asked) (plurals : Plurals) (source fallback : Text) → asked.options.fallback ≡ Some fallback
    → P (run_fallback asked plurals source fallback) (all_first (run_fallback asked plurals source fallback)) → P (run_source asked plurals source) (first_of_source asked plurals source)
of_fallback P asked plurals source fallback is h = subst (λ f. P (run_sources asked plurals source f) (first_of_sources asked plurals source f)) (sym is) h

-- What holds of the run of the input alone holds of it where there is none.
of_none : (P : Run → First → Type 0) (asked : Asked) (plurals : Plurals) (source : Text) → asked.options.fallback ≡ None → P (run_alone asked plurals source) (first_alone asked plurals source)
    → P (run_source asked plurals source) (first_of_source asked plurals source)
of_none P asked plurals source is h = subst (λ f. P (run_sources asked plurals source f) (first_of_sources asked plurals source f)) (sym is) h

-- so do the errors that were added
added_of : {T : Type 0} (result : Result T WriteFault) (asked : Asked) (plurals : Plurals) (source fallback : Text) (old new : List FluentError) → asked.options.fallback ≡ Some fallback
    → Added result (run_fallback asked plurals source fallback).errors old new → Added result (run_source asked plurals source).errors old new
added_of result asked plurals source fallback old new is h = of_fallback (λ run first. Added result run.errors old new) asked plurals source fallback is h

-- and what was taken of the line of its text
took_of : {T : Type 0} (result : Result T WriteFault) (r : Result (Unit {0}) WriteFault) (asked : Asked) (plurals : Plurals) (source fallback text : Text) (old new : Option Text) → asked.options.fallback ≡ Some fallback
    → is_ok result ≡ is_ok r → line text ≡ (run_fallback asked plurals source fallback).output → Took r (line text) old new → Took result (run_source asked plurals source).output old new
took_of result r asked plurals source fallback text old new is same gives h =
    of_fallback (λ run first. Took result run.output old new) asked plurals source fallback is (took_recast r result _ _ _ _ same gives h)

pub returns-in_ok-put_line-in-Some-clause-text : goal.returns-in_ok-put_line-in-Some-clause-text
returns-in_ok-put_line-in-Some-clause-text g c =
    let is = ap text_view c.in-Some.is ∙ ap (λ f. Some f.now) c.in-Some.fallback-is in
    took_of _ c.put_line.result (asked_view c.args.task.request) (plurals_view c.args.task.plurals) c.args.source.now c.in-Some.fallback.now c.as_str.result.now _ _ is
    (sym (ap is_ok c.in_ok-put_line-in-Some.was)) (ap line c.as_str.ensures.value ∙ c.in_ok-text-in-Some.ensures.text) c.put_line.ensures.took

pub returns-in_err-put_line-in-Some-clause-text : goal.returns-in_err-put_line-in-Some-clause-text
returns-in_err-put_line-in-Some-clause-text g c =
    let is = ap text_view c.in-Some.is ∙ ap (λ f. Some f.now) c.in-Some.fallback-is in
    let faulted = not_ok c.from_residual-in_err-put_line-in-Some.result c.from_residual-in_err-put_line-in-Some.ensures.0 in
    took_of _ c.put_line.result (asked_view c.args.task.request) (plurals_view c.args.task.plurals) c.args.source.now c.in-Some.fallback.now c.as_str.result.now _ _ is
    (faulted ∙ sym (ap is_ok c.in_err-put_line-in-Some.was)) (ap line c.as_str.ensures.value ∙ c.in_ok-text-in-Some.ensures.text) c.put_line.ensures.took

pub returns-in_err-put_line-in-Some-clause-stops : goal.returns-in_err-put_line-in-Some-clause-stops
returns-in_err-put_line-in-Some-clause-stops g c =
    let is = ap text_view c.in-Some.is ∙ ap (λ f. Some f.now) c.in-Some.fallback-is in
    let e = c.in_err-put_line-in-Some.field-0.0 in
    let not = never_memory c.put_line.result c.from_residual-in_err-put_line-in-Some.result e c.in_err-put_line-in-Some.was (passed _ e c.from_residual-in_err-put_line-in-Some.ensures.1) c.put_line.ensures.memory in
    let run = run_fallback (asked_view c.args.task.request) (plurals_view c.args.task.plurals) c.args.source.now c.in-Some.fallback.now in
    let all = added_to_none _ _ run.errors c.requires (whole_added c.fallback_text.result _ _ _ _ c.in_ok-text-in-Some.was c.fallback_text.ensures.errors) in
    of_fallback (λ r first. IfErr c.from_residual-in_err-put_line-in-Some.result (Stops r.ending first (reported c.fallback_text.new.errors.items) c.args.out.now c.put_line.new.out))
    (asked_view c.args.task.request) (plurals_view c.args.task.plurals) c.args.source.now c.in-Some.fallback.now is
    (stops_whole c.from_residual-in_err-put_line-in-Some.result run _ _ _ refl all not)

pub returns-in_err-text-in-Some-clause-text : goal.returns-in_err-text-in-Some-clause-text
returns-in_err-text-in-Some-clause-text g c = took_none c.from_residual.result _ _ c.from_residual.ensures.0

pub returns-in_ok-put_line-in-Some-clause-errors : goal.returns-in_ok-put_line-in-Some-clause-errors
returns-in_ok-put_line-in-Some-clause-errors g c =
    let is = ap text_view c.in-Some.is ∙ ap (λ f. Some f.now) c.in-Some.fallback-is in
    added_of _ (asked_view c.args.task.request) (plurals_view c.args.task.plurals) c.args.source.now c.in-Some.fallback.now _ _ is
    (added_kept c.fallback_text.result _ _ _ _ _ c.in_ok-text-in-Some.was c.fallback_text.ensures.errors)

pub returns-in_err-put_line-in-Some-clause-errors : goal.returns-in_err-put_line-in-Some-clause-errors
returns-in_err-put_line-in-Some-clause-errors g c =
    let is = ap text_view c.in-Some.is ∙ ap (λ f. Some f.now) c.in-Some.fallback-is in
    added_of _ (asked_view c.args.task.request) (plurals_view c.args.task.plurals) c.args.source.now c.in-Some.fallback.now _ _ is
    (added_kept c.fallback_text.result _ _ _ _ _ c.in_ok-text-in-Some.was c.fallback_text.ensures.errors)

-- ---- the input alone

pub returns-in-None-clause-text : goal.returns-in-None-clause-text
returns-in-None-clause-text g c =
    let contents = g.W.Write.contents in
    of_none (λ run first. Took c.show_alone.result run.output (contents (writer_in c.args.out.now)) (contents (writer_in c.show_alone.new.out)))
    (asked_view c.args.task.request) (plurals_view c.args.task.plurals) c.args.source.now (ap text_view c.in-None.is) c.show_alone.ensures.text

pub returns-in-None-clause-part : goal.returns-in-None-clause-part
returns-in-None-clause-part g c =
    let contents = g.W.Write.contents in
    of_none (λ run first. c.show_alone.result ≡ Err Memory → (c.show_alone.new.out ≡ c.args.out.now) ⊎ TookPart run.output (contents (writer_in c.args.out.now)) (contents (writer_in c.show_alone.new.out)))
    (asked_view c.args.task.request) (plurals_view c.args.task.plurals) c.args.source.now (ap text_view c.in-None.is) c.show_alone.ensures.part

pub returns-in-None-clause-errors : goal.returns-in-None-clause-errors
returns-in-None-clause-errors g c =
    of_none (λ run first. Added c.show_alone.result run.errors c.args.errors.now.items c.show_alone.new.errors.items)
    (asked_view c.args.task.request) (plurals_view c.args.task.plurals) c.args.source.now (ap text_view c.in-None.is) c.show_alone.ensures.errors
