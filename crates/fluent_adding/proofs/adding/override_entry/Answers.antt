use Rattle.std.proofs.Common.{◌∙◌, ◌++◌, ap, sym, refl}
use Rattle.std.proofs.lemmas.List.{append-nil}
use Rattle.std.proofs.lemmas.Option.{slice_get_read}
use Rattle.std.proofs.lemmas.Result.{on_ok_weaker}
use Rattle.fluent_adding.specs.Inside.WaitingEntries.{given, given_by}
use Rattle.fluent_bundle_entries.specs.IdNumbers.{numbers, table}
use Rattle.fluent_adding.proofs.Linking.{grown_twice}
use Rattle.fluent_adding.proofs.Waiting.{given_junk, one_at, ready_still}
use Rattle.fluent_adding.proofs.adding.override_entry.Goals as goal

pub returns-in_default-clause-given : goal.returns-in_default-clause-given
returns-in_default-clause-given g c =
    let es = c.args.entries.now in
    let e = c.index-entries-index.result in
    let so = given_by es c.args.waiting.now.list.items in
    let there = slice_get_read es _ c.args.index e refl c.requires.within c.index-entries-index.is in
    sym (ap (λ l. so ++ l) (ap given (one_at es c.args.index e there) ∙ given_junk e c.in_default.ensures.none) ∙ append-nil so)

pub returns-in_err-number-clause-grown : goal.returns-in_err-number-clause-grown
returns-in_err-number-clause-grown g c = c.number_of.ensures.grown

pub returns-in_err-number-clause-same : goal.returns-in_err-number-clause-same
returns-in_err-number-clause-same g c = λ answer. c.number_of.ensures.same answer

pub returns-clause-ready : goal.returns-clause-ready
returns-clause-ready g c =
    let es = c.args.entries.now in
    let e = c.index-entries-index.result in
    let first = c.args.known.now in
    let mid = c.number_of.new.self in
    let step = c.in_ok-number.ensures.grown in
    let there = slice_get_read es _ c.args.index e refl c.requires.within c.index-entries-index.is in
    on_ok_weaker c.make_ready.result
    (λ ready. ready es (e, there, c.in-Some.ensures.some) (ready_still (numbers first) (numbers mid) (table first) (table mid) step.0 step.1 es c.args.waiting.now.list.items c.args.waiting.now.kept.items c.requires.ready))
    c.make_ready.ensures.ready

pub returns-clause-grown : goal.returns-clause-grown
returns-clause-grown g c = grown_twice c.args.known.now c.number_of.new.self c.make_ready.new.known c.number_of.ensures.grown c.make_ready.ensures.grown

pub returns-clause-same : goal.returns-clause-same
returns-clause-same g c = λ answer. c.make_ready.ensures.same answer ∙ c.number_of.ensures.same answer
