use Rattle.std.proofs.Common.{◌∙◌, ◌++◌, ◌≤◌, ap, map, refl, subst, sym, take}
use Rattle.std.proofs.lemmas.List.{take_all}
use Rattle.fluent_ast.specs.View.{entry_view}
use Rattle.fluent_adding.specs.Inside.WaitingEntries.{AreReady, at_index, given, given_at, given_by}
use Rattle.fluent_bundle_entries.specs.IdNumbers.{numbers, table}
use Rattle.fluent_adding.proofs.Linking.{grown_twice}
use Rattle.fluent_adding.proofs.Waiting.{given_append, one_more}
use Rattle.fluent_adding.proofs.adding.override_all.Goals as goal

pub entries-init : goal.entries-init
entries-init g c =
    let es = c.args.entries.now in
    let first = c.args.known.now in
    record {
      ready = subst (λ rs. AreReady (numbers first) (table first) es rs c.in_ok-waiting.waiting.kept.items) (sym c.in_ok-waiting.ensures.list) c.in_ok-waiting.ensures.kept;
      given = ap (given_by es) c.in_ok-waiting.ensures.list;
      grown = (λ id n h. h, λ n p h. h);
      same = λ answer. refl;
    }

pub entries-preserved : goal.entries-preserved
entries-preserved g c =
    let es = c.args.entries.now in
    let i = c.entries.index in
    record {
      ready = c.in_ok-override_entry.ensures.ready;
      given = c.in_ok-override_entry.ensures.given ∙ (ap (λ l. l ++ given_at es i) c.entries.invariant.given ∙ (sym (given_append (map entry_view (take i es)) (at_index es i)) ∙ ap given (sym (one_more es i))));
      grown = grown_twice c.args.known.now c.entries.known c.override_entry.new.known c.entries.invariant.grown c.in_ok-override_entry.ensures.grown;
      same = λ answer. c.in_ok-override_entry.ensures.same answer ∙ c.entries.invariant.same answer;
    }

pub returns-in_err-override_entry-clause-grown : goal.returns-in_err-override_entry-clause-grown
returns-in_err-override_entry-clause-grown g c = grown_twice c.args.known.now c.entries.known c.override_entry.new.known c.entries.invariant.grown c.override_entry.ensures.grown

pub returns-in_err-override_entry-clause-same : goal.returns-in_err-override_entry-clause-same
returns-in_err-override_entry-clause-same g c = λ answer. c.override_entry.ensures.same answer ∙ c.entries.invariant.same answer

pub returns-clause-given : goal.returns-clause-given
returns-clause-given g c =
    let es = c.args.entries.now in
    let far = subst (λ n. n ≤ c.entries.index) c.in_ok-index-end.ensures c.entries-test.false in
    c.entries.invariant.given ∙ ap (λ xs. given (map entry_view xs)) (take_all c.entries.index es far)

pub returns-clause-grown : goal.returns-clause-grown
returns-clause-grown g c = c.entries.invariant.grown

pub returns-clause-same : goal.returns-clause-same
returns-clause-same g c = c.entries.invariant.same
