use Rattle.std.proofs.Common.{ap, sym, subst, ◌∙◌, ◌++◌, ◌∷◌, [], append_assoc}
use Rattle.std.specs.Vec.Iter.{into_iter_items}
use Rattle.fluent_semantics.specs.Arguments.{set_all}
use Rattle.fluent_bundle_entries.specs.EntryView.{ids}
use Rattle.fluent_bundle_entries.specs.IdNumbers.{numbers, table}
use Rattle.fluent_adding.specs.Inside.WaitingEntries.{AreReady, given_at, given_by}
use Rattle.fluent_adding.proofs.Linking.{grown_by, grown_twice}
use Rattle.fluent_bundle_entries.specs.KeptLaws.{grows_by, kept_by}
use Rattle.fluent_adding.proofs.Waiting.{ready_still, set_more}
use Rattle.fluent_adding.proofs.adding.put_all.Goals as goal

pub loop-ready-preserved : goal.loop-ready-preserved
loop-ready-preserved g c =
    let es = c.args.entries.now in
    let m = c.loop-ready.known in
    let m' = c.put_one.new.known in
    let n = numbers m in
    let t = table m in
    let r = c.in-Some.ready in
    let rest = into_iter_items c.next.new.self in
    let all = subst (λ rs. AreReady n t es rs (into_iter_items c.loop-ready.kept)) c.in-Some.ensures.steps.0 c.loop-ready.invariant.ready in
    let took = c.next_kept-kept.ensures.next all.0 all.1 all.2 all.3.0 in
    record {
      whole = c.loop-ready.invariant.whole ∙ ap (λ xs. c.loop-ready.yielded ++ xs) c.in-Some.ensures.steps.0 ∙ sym (append_assoc c.loop-ready.yielded (r ∷ []) _);
      full = c.next_kept-kept.ensures.full;
      ready = subst (AreReady (numbers m') (table m') es rest) (sym took.1) (ready_still n (numbers m') t (table m') (kept_by n (numbers m') c.put_one.ensures.numbers) (grows_by t (table m') c.put_one.ensures.table) es rest all.1 all.4);
      grown = grown_twice c.args.known.now m m' c.loop-ready.invariant.grown (grown_by m m' c.put_one.ensures.numbers c.put_one.ensures.table);
      same = λ answer.
          ap (set_all (given_by es rest)) (c.put_one.ensures.after answer)
          ∙ (sym (set_more (given_at es r.index) (given_by es rest) (ids answer m))
          ∙ (ap (λ rs. set_all (given_by es rs) (ids answer m)) (sym c.in-Some.ensures.steps.0)
          ∙ c.loop-ready.invariant.same answer));
    }
