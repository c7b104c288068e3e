use Rattle.std.proofs.Common.{◌==◌, ◌≤◌, count_by, length, min, refl, ap, sym, subst, ◌∙◌, arith}
use Rattle.std.specs.List.{slice_range}
use Rattle.fluent_c_handles.specs.Calls.Adding.{line_at}
use Rattle.fluent_c_handles.specs.Inside.Counted.{IsCounted}
use Rattle.fluent_c_handles.proofs.Counting.{line_on, line_within}
use Rattle.fluent_c_handles.proofs.counted.counted_to.Goals as goal
use Rattle.fluent_c_handles.proofs.counted.counted_to.Goals.{then-counted-end, else-counted-end}

pub returns-clause-counted : goal.returns-clause-counted
returns-clause-counted c =
    let source = c.args.source.now in
    let from = c.if-counted-end.from in
    let end = c.min-end.result in
    let begins : (from.at ≤ end) × IsCounted source from =
    elim c.if-counted-end.branch [
      | then-counted-end w ↦ subst (λ f. (f.at ≤ end) × IsCounted source f) (sym w.from-is) (w.if-counted-end.true, c.requires)
      | else-counted-end w ↦ subst (λ f. (f.at ≤ end) × IsCounted source f) (sym w.from-is) (omega arith, refl)
    ] in
    let counted = c.feeds.ensures ∙ ap (λ t. count_by (λ x. x == 10) (slice_range t from.at end)) c.as_bytes-bytes.ensures.value in
    line_on source from.at end from.line c.feeds.result begins.0 begins.1 counted

pub returns-clause-line : goal.returns-clause-line
returns-clause-line c =
    let source = c.args.source.now in
    returns-clause-counted c
    ∙ (ap (line_at source) (c.min-end.ensures ∙ ap (λ t. min c.args.at (length t)) c.as_bytes-bytes.ensures.value)
    ∙ line_within source c.args.at)
