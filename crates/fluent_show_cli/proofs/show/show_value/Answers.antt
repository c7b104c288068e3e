use Rattle.std.proofs.Common.{◌∙◌, sym, ap, refl, inr, Ok, is_ok, ◌∷◌, []}
use Rattle.fluent_show_cli.specs.Inside.BundleView.{args_view, bundle_view}
use Rattle.fluent_show_words.specs.WordsView.{asked_view}
use Rattle.fluent_show_cli.proofs.Adding.{added_nothing}
use Rattle.fluent_show_cli.proofs.Faults.{counts_passed, counts_then, not_ok, passed, took_none}
use Rattle.fluent_show_cli.proofs.Found.{adds_fault, adds_line, adds_none, none_shown, part_fault, puts_fault, puts_line, puts_none, shown_before, was_shown}
use Rattle.fluent_show_cli.proofs.Stopping.{stops_writing}
use Rattle.fluent_show_cli.proofs.Taking.{took_put, took_recast}
use Rattle.fluent_show_cli.proofs.show.show_value.Goals as goal

pub returns-in_err-write_value-clause-text : goal.returns-in_err-write_value-clause-text
returns-in_err-write_value-clause-text g c =
    let faulted = not_ok c.from_residual-in_err-write_value.result c.from_residual-in_err-write_value.ensures.0 in
    puts_fault (asked_view c.args.request) (bundle_view c.args.bundle.now) (args_view c.in_ok-args.args) c.in_ok-args.ensures (c.events_are_the_run.ensures _ _) g.W.Write.contents c.write_value.result _ _ _ _
    c.from_residual-in_err-write_value.result c.in_err-write_value.field-0.0 c.in_err-write_value.was faulted _ c.write_value.ensures.writes

pub returns-in_err-write_value-clause-part : goal.returns-in_err-write_value-clause-part
returns-in_err-write_value-clause-part g c refused =
    let faulted = not_ok c.from_residual-in_err-write_value.result c.from_residual-in_err-write_value.ensures.0 in
    inr (part_fault (asked_view c.args.request) (bundle_view c.args.bundle.now) (args_view c.in_ok-args.args) c.in_ok-args.ensures (c.events_are_the_run.ensures _ _) g.W.Write.contents c.write_value.result _ _ _ _
    c.from_residual-in_err-write_value.result c.in_err-write_value.field-0.0 c.in_err-write_value.was faulted _ c.write_value.ensures.writes)

pub returns-in_err-write_value-clause-errors : goal.returns-in_err-write_value-clause-errors
returns-in_err-write_value-clause-errors g c =
    let faulted = not_ok c.from_residual-in_err-write_value.result c.from_residual-in_err-write_value.ensures.0 in
    adds_fault (asked_view c.args.request) (bundle_view c.args.bundle.now) (args_view c.in_ok-args.args) c.in_ok-args.ensures (c.events_are_the_run.ensures _ _) g.W.Write.contents c.write_value.result _ _ _ _
    c.from_residual-in_err-write_value.result c.in_err-write_value.field-0.0 c.in_err-write_value.was faulted _ c.write_value.ensures.writes

pub returns-in_err-write_value-clause-stops : goal.returns-in_err-write_value-clause-stops
returns-in_err-write_value-clause-stops g c =
    stops_writing c.from_residual-in_err-write_value.result _ _ _ _
    (shown_before (asked_view c.args.request) (bundle_view c.args.bundle.now) (args_view c.in_ok-args.args) c.in_ok-args.ensures (c.events_are_the_run.ensures _ _) g.W.Write.contents c.write_value.result _ _ _ _
    c.in_err-write_value.field-0.0 c.in_err-write_value.was _ c.write_value.ensures.writes)

pub returns-in_err-put-clause-text : goal.returns-in_err-put-clause-text
returns-in_err-put-clause-text g c =
    let is = c.in_ok-write_value.was ∙ ap Ok c.if-branch.true in
    let faulted = not_ok c.from_residual-in_err-put.result c.from_residual-in_err-put.ensures.0 in
    puts_line (asked_view c.args.request) (bundle_view c.args.bundle.now) (args_view c.in_ok-args.args) c.in_ok-args.ensures (c.events_are_the_run.ensures _ _) g.W.Write.contents c.write_value.result _ _ _ _
    c.from_residual-in_err-put.result is _ c.write_value.ensures.writes _
    (took_recast c.put.result _ _ _ _ _ (faulted ∙ sym (ap is_ok c.in_err-put.was)) refl (took_put c.put.result (10 ∷ []) _ _ c.put.ensures.whole c.put.ensures.prefix))

pub returns-then-branch-clause-text : goal.returns-then-branch-clause-text
returns-then-branch-clause-text g c =
    let is = c.in_ok-write_value.was ∙ ap Ok c.if-branch.true in
    puts_line (asked_view c.args.request) (bundle_view c.args.bundle.now) (args_view c.in_ok-args.args) c.in_ok-args.ensures (c.events_are_the_run.ensures _ _) g.W.Write.contents c.write_value.result _ _ _ _
    _ is _ c.write_value.ensures.writes _
    (took_recast c.put.result _ _ _ _ _ (sym (ap is_ok c.in_ok-put.was)) refl (took_put c.put.result (10 ∷ []) _ _ c.put.ensures.whole c.put.ensures.prefix))

pub returns-clause-text : goal.returns-clause-text
returns-clause-text g c =
    let is = c.in_ok-write_value.was ∙ ap Ok c.if-branch.false in
    puts_none (asked_view c.args.request) (bundle_view c.args.bundle.now) (args_view c.in_ok-args.args) c.in_ok-args.ensures (c.events_are_the_run.ensures _ _) g.W.Write.contents c.write_value.result _ _ _ _
    _ is _ c.write_value.ensures.writes

pub returns-in_err-put-clause-errors : goal.returns-in_err-put-clause-errors
returns-in_err-put-clause-errors g c =
    let is = c.in_ok-write_value.was ∙ ap Ok c.if-branch.true in
    adds_line (asked_view c.args.request) (bundle_view c.args.bundle.now) (args_view c.in_ok-args.args) c.in_ok-args.ensures (c.events_are_the_run.ensures _ _) g.W.Write.contents c.write_value.result _ _ _ _
    c.from_residual-in_err-put.result is _ c.write_value.ensures.writes

pub returns-then-branch-clause-errors : goal.returns-then-branch-clause-errors
returns-then-branch-clause-errors g c =
    let is = c.in_ok-write_value.was ∙ ap Ok c.if-branch.true in
    adds_line (asked_view c.args.request) (bundle_view c.args.bundle.now) (args_view c.in_ok-args.args) c.in_ok-args.ensures (c.events_are_the_run.ensures _ _) g.W.Write.contents c.write_value.result _ _ _ _
    _ is _ c.write_value.ensures.writes

pub returns-in_err-put-clause-stops : goal.returns-in_err-put-clause-stops
returns-in_err-put-clause-stops g c =
    let is = c.in_ok-write_value.was ∙ ap Ok c.if-branch.true in
    stops_writing c.from_residual-in_err-put.result _ _ _ _
    (was_shown (asked_view c.args.request) (bundle_view c.args.bundle.now) (args_view c.in_ok-args.args) c.in_ok-args.ensures (c.events_are_the_run.ensures _ _) g.W.Write.contents c.write_value.result _ _ _ _ is _ c.write_value.ensures.writes)

pub returns-in_err-put-clause-fault : goal.returns-in_err-put-clause-fault
returns-in_err-put-clause-fault g c =
    let e = c.in_err-put.field-0.0 in
    counts_then c.write_value.result c.from_residual-in_err-put.result _ _ c.write_value.new.w _ c.in_ok-write_value.was c.write_value.ensures.fault
    (counts_passed c.put.result c.from_residual-in_err-put.result e _ _ c.in_err-put.was (passed _ e c.from_residual-in_err-put.ensures.1) c.put.ensures.fault)

pub returns-then-branch-clause-ending : goal.returns-then-branch-clause-ending
returns-then-branch-clause-ending g c =
    let is = c.in_ok-write_value.was ∙ ap Ok c.if-branch.true in
    sym (was_shown (asked_view c.args.request) (bundle_view c.args.bundle.now) (args_view c.in_ok-args.args) c.in_ok-args.ensures (c.events_are_the_run.ensures _ _) g.W.Write.contents c.write_value.result _ _ _ _ is _ c.write_value.ensures.writes)

pub returns-clause-errors : goal.returns-clause-errors
returns-clause-errors g c =
    let is = c.in_ok-write_value.was ∙ ap Ok c.if-branch.false in
    adds_none (asked_view c.args.request) (bundle_view c.args.bundle.now) (args_view c.in_ok-args.args) c.in_ok-args.ensures (c.events_are_the_run.ensures _ _) g.W.Write.contents c.write_value.result _ _ _ _
    _ is _ c.write_value.ensures.writes

pub returns-clause-ending : goal.returns-clause-ending
returns-clause-ending g c =
    let is = c.in_ok-write_value.was ∙ ap Ok c.if-branch.false in
    sym (none_shown (asked_view c.args.request) (bundle_view c.args.bundle.now) (args_view c.in_ok-args.args) c.in_ok-args.ensures (c.events_are_the_run.ensures _ _) g.W.Write.contents c.write_value.result _ _ _ _ is _ c.write_value.ensures.writes)

-- ---- no memory for the arguments

pub returns-in_err-args-clause-text : goal.returns-in_err-args-clause-text
returns-in_err-args-clause-text g c = took_none c.from_residual.result _ _ c.from_residual.ensures.0

pub returns-in_err-args-clause-errors : goal.returns-in_err-args-clause-errors
returns-in_err-args-clause-errors g c = added_nothing c.from_residual.result _ c.args.errors.now.items _ (not_ok c.from_residual.result c.from_residual.ensures.0) refl
