use Rattle.std.proofs.Common.{◌∙◌, ap, sym, subst, refl, Some}
use Rattle.std.proofs.lemmas.Option.{slice_get_within}
use Rattle.std.proofs.lemmas.Slice.Eq.{bytes_eq-Decides}
use Rattle.fluent_semantics.specs.Arguments.{set_all}
use Rattle.fluent_adding.specs.Inside.WaitingEntries.{IsReady, given}
use Rattle.fluent_bundle_entries.specs.EntryView.{ids}
use Rattle.fluent_bundle_entries.specs.IdNumbers.{numbers, table}
use Rattle.fluent_adding.proofs.Waiting.{one_at, same_at}
use Rattle.fluent_adding.proofs.adding.put_one.Goals as goal

pub bounds-entries-ready : goal.bounds-entries-ready
bounds-entries-ready g c = slice_get_within c.args.entries.now c.args.ready.index c.requires.1 c.requires.2

pub put-requires-clause-own : goal.put-requires-clause-own
put-requires-clause-own g c =
    let e = c.requires.1 in
    let same = same_at c.args.entries.now c.args.ready.index e c.index-entries-ready.result c.requires.2 c.index-entries-ready.is ∙ c.in-Message.is in
    let h = subst (IsReady (numbers c.args.known.now) (table c.args.known.now) c.args.ready.number c.args.kept) same c.requires.3 in
    (c.in-Message.message.id.name.now, h.0, (bytes_eq-Decides c.in-Message.message.id.name.now c.in-Message.message.id.name.now).1 refl)

pub put-requires-clause-linked : goal.put-requires-clause-linked
put-requires-clause-linked g c =
    let e = c.requires.1 in
    let same = same_at c.args.entries.now c.args.ready.index e c.index-entries-ready.result c.requires.2 c.index-entries-ready.is ∙ c.in-Message.is in
    let h = subst (IsReady (numbers c.args.known.now) (table c.args.known.now) c.args.ready.number c.args.kept) same c.requires.3 in
    h.1

pub put-requires-in-Term-clause-own : goal.put-requires-in-Term-clause-own
put-requires-in-Term-clause-own g c =
    let e = c.requires.1 in
    let same = same_at c.args.entries.now c.args.ready.index e c.index-entries-ready.result c.requires.2 c.index-entries-ready.is ∙ c.in-Term.is in
    let h = subst (IsReady (numbers c.args.known.now) (table c.args.known.now) c.args.ready.number c.args.kept) same c.requires.3 in
    (c.in-Term.term.id.name.now, h.0, (bytes_eq-Decides c.in-Term.term.id.name.now c.in-Term.term.id.name.now).1 refl)

pub put-requires-in-Term-clause-linked : goal.put-requires-in-Term-clause-linked
put-requires-in-Term-clause-linked g c =
    let e = c.requires.1 in
    let same = same_at c.args.entries.now c.args.ready.index e c.index-entries-ready.result c.requires.2 c.index-entries-ready.is ∙ c.in-Term.is in
    let h = subst (IsReady (numbers c.args.known.now) (table c.args.known.now) c.args.ready.number c.args.kept) same c.requires.3 in
    h.1

pub returns-in-Message-clause-after : goal.returns-in-Message-clause-after
returns-in-Message-clause-after g c = λ answer.
    let es = c.args.entries.now in
    let e = c.requires.1 in
    let same = same_at es c.args.ready.index e c.index-entries-ready.result c.requires.2 c.index-entries-ready.is ∙ c.in-Message.is in
    let h = subst (IsReady (numbers c.args.known.now) (table c.args.known.now) c.args.ready.number c.args.kept) same c.requires.3 in
    c.put.ensures.after c.in-Message.message.id.name.now h.0 answer
    ∙ sym (ap (λ p. set_all (given p) (ids answer c.args.known.now)) (one_at es c.args.ready.index _ (c.requires.2 ∙ ap Some same)))

pub returns-in-Term-clause-after : goal.returns-in-Term-clause-after
returns-in-Term-clause-after g c = λ answer.
    let es = c.args.entries.now in
    let e = c.requires.1 in
    let same = same_at es c.args.ready.index e c.index-entries-ready.result c.requires.2 c.index-entries-ready.is ∙ c.in-Term.is in
    let h = subst (IsReady (numbers c.args.known.now) (table c.args.known.now) c.args.ready.number c.args.kept) same c.requires.3 in
    c.put-in-Term.ensures.after c.in-Term.term.id.name.now h.0 answer
    ∙ sym (ap (λ p. set_all (given p) (ids answer c.args.known.now)) (one_at es c.args.ready.index _ (c.requires.2 ∙ ap Some same)))

pub returns-in-Junk-clause-after : goal.returns-in-Junk-clause-after
returns-in-Junk-clause-after g c = λ answer.
    let e = c.requires.1 in
    let same = same_at c.args.entries.now c.args.ready.index e c.index-entries-ready.result c.requires.2 c.index-entries-ready.is ∙ c.in-Junk.is in
    absurd (subst (IsReady (numbers c.args.known.now) (table c.args.known.now) c.args.ready.number c.args.kept) same c.requires.3)
