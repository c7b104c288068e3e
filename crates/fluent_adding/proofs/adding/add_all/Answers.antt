use Rattle.std.proofs.Common.{◌∙◌, ◌++◌, ◌≤◌, ap, sym, subst, refl, append_assoc, map, take}
use Rattle.std.proofs.lemmas.List.{append-nil, take_all}
use Rattle.fluent_ast.specs.View.{entry_view}
use Rattle.fluent_semantics.specs.Arguments.{set_all}
use Rattle.fluent_semantics.specs.Bundle.{added, not_added}
use Rattle.fluent_adding.specs.Inside.WaitingEntries.{AreReady, at_index, given_by, has_number, is_marked}
use Rattle.fluent_bundle_entries.specs.EntryView.{ids}
use Rattle.fluent_bundle_entries.specs.ErrorView.{error_view}
use Rattle.fluent_bundle_entries.specs.IdNumbers.{numbers, table}
use Rattle.fluent_adding.proofs.Added.{added_append, not_added_append}
use Rattle.fluent_adding.proofs.Linking.{grown_twice}
use Rattle.fluent_adding.proofs.Waiting.{none_marked, one_more}
use Rattle.fluent_adding.proofs.adding.add_all.Goals as goal

pub entries-init : goal.entries-init
entries-init g c =
    let es = c.args.entries.now in
    let first = c.args.known.now in
    record {
      ready = subst (λ rs. AreReady (numbers first) (table first) es rs c.in_ok-waiting.waiting.kept.items) (sym c.in_ok-waiting.ensures.list) c.in_ok-waiting.ensures.kept;
      marked = λ n. ap (λ ms. is_marked ms n) c.in_ok-marks.ensures.items ∙ (none_marked n ∙ sym (ap (λ rs. has_number rs n) c.in_ok-waiting.ensures.list));
      after = λ answer. ap (λ rs. set_all (given_by es rs) (ids answer first)) c.in_ok-waiting.ensures.list;
      told = λ answer. sym (append-nil (map error_view c.args.errors.now.items));
      grown = (λ id n h. h, λ n p h. h);
      same = λ answer. refl;
    }

pub entries-preserved : goal.entries-preserved
entries-preserved g c =
    let es = c.args.entries.now in
    let i = c.entries.index in
    let far = map entry_view (take i es) in
    let list = c.entries.waiting.list.items in
    let first = map error_view c.args.errors.now.items in
    record {
      ready = c.in_ok-add_entry.ensures.ready;
      marked = c.in_ok-add_entry.ensures.marked;
      after = λ answer.
          let now = ids answer c.args.known.now in
          let same = c.entries.invariant.same answer in
          ap (set_all (given_by es c.add_entry.new.waiting.list.items)) (sym same)
          ∙ (c.in_ok-add_entry.ensures.after answer
          ∙ (ap (λ x. added (at_index es i) (set_all (given_by es list) x)) same
          ∙ (ap (added (at_index es i)) (c.entries.invariant.after answer)
          ∙ (sym (added_append far (at_index es i) now)
          ∙ ap (λ p. added p now) (sym (one_more es i))))));
      told = λ answer.
          let now = ids answer c.args.known.now in
          let so = map error_view c.entries.errors.items in
          c.in_ok-add_entry.ensures.told answer
          ∙ (ap (λ x. so ++ not_added (at_index es i) (set_all (given_by es list) x)) (c.entries.invariant.same answer)
          ∙ (ap (λ m. so ++ not_added (at_index es i) m) (c.entries.invariant.after answer)
          ∙ (ap (λ s. s ++ not_added (at_index es i) (added far now)) (c.entries.invariant.told answer)
          ∙ (append_assoc first (not_added far now) (not_added (at_index es i) (added far now))
          ∙ (sym (ap (λ l. first ++ l) (not_added_append far (at_index es i) now))
          ∙ ap (λ p. first ++ not_added p now) (sym (one_more es i)))))));
      grown = grown_twice c.args.known.now c.entries.known c.add_entry.new.known c.entries.invariant.grown c.in_ok-add_entry.ensures.grown;
      same = λ answer. c.in_ok-add_entry.ensures.same answer ∙ c.entries.invariant.same answer;
    }

pub returns-in_err-add_entry-clause-grown : goal.returns-in_err-add_entry-clause-grown
returns-in_err-add_entry-clause-grown g c = grown_twice c.args.known.now c.entries.known c.add_entry.new.known c.entries.invariant.grown c.add_entry.ensures.grown

pub returns-in_err-add_entry-clause-same : goal.returns-in_err-add_entry-clause-same
returns-in_err-add_entry-clause-same g c = λ answer. c.add_entry.ensures.same answer ∙ c.entries.invariant.same answer

pub returns-clause-after : goal.returns-clause-after
returns-clause-after g c = λ answer.
    let es = c.args.entries.now in
    let now = ids answer c.args.known.now in
    let far = subst (λ n. n ≤ c.entries.index) c.in_ok-index-end.ensures c.entries-test.false in
    c.entries.invariant.after answer ∙ ap (λ xs. added (map entry_view xs) now) (take_all c.entries.index es far)

pub returns-clause-told : goal.returns-clause-told
returns-clause-told g c = λ answer.
    let es = c.args.entries.now in
    let now = ids answer c.args.known.now in
    let first = map error_view c.args.errors.now.items in
    let far = subst (λ n. n ≤ c.entries.index) c.in_ok-index-end.ensures c.entries-test.false in
    c.entries.invariant.told answer ∙ ap (λ xs. first ++ not_added (map entry_view xs) now) (take_all c.entries.index es far)

pub returns-clause-grown : goal.returns-clause-grown
returns-clause-grown g c = c.entries.invariant.grown

pub returns-clause-same : goal.returns-clause-same
returns-clause-same g c = c.entries.invariant.same
