use Rattle.std.proofs.Common.{ap, refl, subst, sym, Some, ◌≡◌, ◌∙◌}
use Rattle.fluent_show_cli.specs.Runs.{reader_in}
use Rattle.fluent_show_cli.specs.Program.{run_asked, first_asked}
use Rattle.fluent_show_words.specs.Words.{plurals_asked, HasBadRule}
use Rattle.fluent_show_words.specs.PluralsView.{plurals_view}
use Rattle.fluent_show_words.specs.WordsView.{asked_view}
use Rattle.fluent_show_cli.proofs.Coming.{ends_only, ends_of, ends_unruled, by_rules, first_by_rules, never_bad, read_for_rules, rule_or_memory, some_left}
use Rattle.fluent_show_cli.proofs.run.attempt.Goals as goal

pub returns-in_default-clause-ends : goal.returns-in_default-clause-ends
returns-in_default-clause-ends g c =
    let left = some_left (g.R.Read.remaining (reader_in c.args.input.now)) in
    (left.0, left.1, ends_only _ _ _ _ _ c.requires _ (ap (λ asked. run_asked asked left.0) (sym c.in_default.ensures)))

pub returns-in-Ok-clause-ends : goal.returns-in-Ok-clause-ends
returns-in-Ok-clause-ends g c =
    let asked = asked_view c.in-Some.request in
    let plurals = plurals_view c.of-plurals.result in
    let read : plurals_asked asked.options ≡ Some plurals = c.in-Ok.ensures.ok ∙ ap Some (sym c.of-plurals.ensures) in
    let ends = c.show_input.ensures.ends in (
      ends.0,
      ends.1,
      ends_of _ _ _ _ _ _ _ _ _
          (by_rules asked plurals ends.0 read ∙ ap (λ a. run_asked a ends.0) c.in-Some.ensures)
          (first_by_rules asked plurals ends.0 read ∙ ap (λ a. first_asked a ends.0) c.in-Some.ensures)
          ends.2,
    )

pub returns-in-Ok-clause-rule : goal.returns-in-Ok-clause-rule
returns-in-Ok-clause-rule g c bad =
    let asked = asked_view c.in-Some.request in
    let plurals = plurals_view c.of-plurals.result in
    let read : plurals_asked asked.options ≡ Some plurals = c.in-Ok.ensures.ok ∙ ap Some (sym c.of-plurals.ensures) in
    absurd (never_bad asked _ plurals c.in-Some.ensures read bad)

pub returns-in-Ok-clause-untouched : goal.returns-in-Ok-clause-untouched
returns-in-Ok-clause-untouched g c bad =
    let asked = asked_view c.in-Some.request in
    let plurals = plurals_view c.of-plurals.result in
    let read : plurals_asked asked.options ≡ Some plurals = c.in-Ok.ensures.ok ∙ ap Some (sym c.of-plurals.ensures) in
    absurd (never_bad asked _ plurals c.in-Some.ensures read bad)

pub returns-in-Err-clause-ends : goal.returns-in-Err-clause-ends
returns-in-Err-clause-ends g c =
    let left = some_left (g.R.Read.remaining (reader_in c.args.input.now)) in (
      left.0,
      left.1,
      ends_of _ _ _ _ _ _ _ _ _ (ap (λ a. run_asked a left.0) c.in-Some.ensures) refl
          (ends_unruled (asked_view c.in-Some.request) c.in-Err.fault _ _ left.0 _ _ _ c.requires c.from.ensures c.begin.ensures.state c.in-Err.ensures.syntax),
    )

pub returns-in-Err-clause-rule : goal.returns-in-Err-clause-rule
returns-in-Err-clause-rule g c bad = rule_or_memory c.in-Err.fault _ c.from.ensures

pub returns-in-Err-clause-reads : goal.returns-in-Err-clause-reads
returns-in-Err-clause-reads g c = read_for_rules c.in-Err.fault _ _ _ c.from.ensures c.begin.ensures.state

pub returns-in_default-clause-rule : goal.returns-in_default-clause-rule
returns-in_default-clause-rule g c bad = absurd (subst HasBadRule (sym c.in_default.ensures) bad)

pub returns-in_default-clause-untouched : goal.returns-in_default-clause-untouched
returns-in_default-clause-untouched g c bad = absurd (subst HasBadRule (sym c.in_default.ensures) bad)
