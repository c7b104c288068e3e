use Rattle.std.proofs.Common.{◌≡◌, ◌∙◌, ◌++◌, ◌||◌, ◌∷◌, [], ap, nat_eq, sym, refl, map, is_some, Bool, true, false}
use Rattle.std.proofs.lemmas.List.{append-nil, map-append}
use Rattle.std.proofs.lemmas.Option.{slice_get_read}
use Rattle.std.proofs.lemmas.Result.{on_ok_weaker}
use Rattle.fluent_semantics.specs.Arguments.{get, set_all}
use Rattle.fluent_semantics.specs.Bundle.{added, not_added}
use Rattle.fluent_adding.specs.Inside.WaitingEntries.{given, given_at, given_by, has_number}
use Rattle.fluent_bundle_entries.specs.EntryView.{ids}
use Rattle.fluent_bundle_entries.specs.IdNumbers.{numbers, table}
use Rattle.fluent_bundle_entries.specs.ErrorView.{error_view}
use Rattle.fluent_adding.proofs.Linking.{grown_twice}
use Rattle.fluent_adding.proofs.Waiting.{added_free, added_junk, added_taken, is_taken_by, one_at, ready_still, set_more, told_free, told_junk, told_taken}
use Rattle.fluent_adding.proofs.adding.add_entry.Goals as goal

either : (a b : Bool) → (a || b) ≡ (b || a)
either true true = refl
either true false = refl
either false true = refl
either false false = refl

pub returns-in_default-clause-after : goal.returns-in_default-clause-after
returns-in_default-clause-after g c = λ answer.
    let es = c.args.entries.now in
    let e = c.index-entries-index.result in
    let before = set_all (given_by es c.args.waiting.now.list.items) (ids answer c.args.known.now) in
    let there = slice_get_read es _ c.args.index e refl c.requires.within c.index-entries-index.is in
    sym (ap (λ p. added p before) (one_at es c.args.index e there) ∙ added_junk e c.in_default.ensures.none before)

pub returns-in_default-clause-told : goal.returns-in_default-clause-told
returns-in_default-clause-told g c = λ answer.
    let es = c.args.entries.now in
    let e = c.index-entries-index.result in
    let before = set_all (given_by es c.args.waiting.now.list.items) (ids answer c.args.known.now) in
    let so = map error_view c.args.errors.now.items in
    let there = slice_get_read es _ c.args.index e refl c.requires.within c.index-entries-index.is in
    sym (ap (λ l. so ++ l) (ap (λ p. not_added p before) (one_at es c.args.index e there) ∙ told_junk e c.in_default.ensures.none before) ∙ append-nil so)

pub returns-in_err-number-clause-grown : goal.returns-in_err-number-clause-grown
returns-in_err-number-clause-grown g c = c.number_of.ensures.grown

pub returns-in_err-number-clause-same : goal.returns-in_err-number-clause-same
returns-in_err-number-clause-same g c = λ answer. c.number_of.ensures.same answer

pub returns-in_err-left-clause-grown : goal.returns-in_err-left-clause-grown
returns-in_err-left-clause-grown g c = c.number_of.ensures.grown

pub returns-in_err-left-clause-same : goal.returns-in_err-left-clause-same
returns-in_err-left-clause-same g c = λ answer. c.number_of.ensures.same answer

pub returns-in_err-push-clause-grown : goal.returns-in_err-push-clause-grown
returns-in_err-push-clause-grown g c = c.number_of.ensures.grown

pub returns-in_err-push-clause-same : goal.returns-in_err-push-clause-same
returns-in_err-push-clause-same g c = λ answer. c.number_of.ensures.same answer

pub returns-then-is_taken-clause-grown : goal.returns-then-is_taken-clause-grown
returns-then-is_taken-clause-grown g c = c.number_of.ensures.grown

pub returns-then-is_taken-clause-same : goal.returns-then-is_taken-clause-same
returns-then-is_taken-clause-same g c = λ answer. c.number_of.ensures.same answer

pub returns-then-is_taken-clause-ready : goal.returns-then-is_taken-clause-ready
returns-then-is_taken-clause-ready g c =
    let first = c.args.known.now in
    let mid = c.number_of.new.self in
    let step = c.in_ok-number.ensures.grown in
    ready_still (numbers first) (numbers mid) (table first) (table mid) step.0 step.1 c.args.entries.now c.args.waiting.now.list.items c.args.waiting.now.kept.items c.requires.ready

pub returns-then-is_taken-clause-after : goal.returns-then-is_taken-clause-after
returns-then-is_taken-clause-after g c = λ answer.
    let es = c.args.entries.now in
    let e = c.index-entries-index.result in
    let rs = c.args.waiting.now.list.items in
    let ks = c.args.waiting.now.kept.items in
    let first = c.args.known.now in
    let mid = c.number_of.new.self in
    let step = c.in_ok-number.ensures.grown in
    let id = c.in-Some.parts.id.now in
    let n = c.in_ok-number.number in
    let now = ids answer first in
    let before = set_all (given_by es rs) now in
    let there = slice_get_read es _ c.args.index e refl c.requires.within c.index-entries-index.is in
    let ready = ready_still (numbers first) (numbers mid) (table first) (table mid) step.0 step.1 es rs ks c.requires.ready in
    let taken : is_some (get id before) ≡ true = is_taken_by mid id n c.in_ok-number.ensures.number (table mid) es c.args.marks.now.items c.deref.result.now rs ks ready c.requires.marked c.deref.ensures.value now (ids answer mid) (c.in_ok-number.ensures.same answer) c.is_taken.result true (c.is_taken.ensures id c.in_ok-number.ensures.number answer) c.if-is_taken.true in
    sym (ap (λ p. added p before) (one_at es c.args.index e there) ∙ added_taken e _ c.in-Some.ensures.some before taken)

pub returns-then-is_taken-clause-told : goal.returns-then-is_taken-clause-told
returns-then-is_taken-clause-told g c = λ answer.
    let es = c.args.entries.now in
    let e = c.index-entries-index.result in
    let rs = c.args.waiting.now.list.items in
    let ks = c.args.waiting.now.kept.items in
    let first = c.args.known.now in
    let mid = c.number_of.new.self in
    let step = c.in_ok-number.ensures.grown in
    let id = c.in-Some.parts.id.now in
    let n = c.in_ok-number.number in
    let now = ids answer first in
    let before = set_all (given_by es rs) now in
    let so = map error_view c.args.errors.now.items in
    let there = slice_get_read es _ c.args.index e refl c.requires.within c.index-entries-index.is in
    let ready = ready_still (numbers first) (numbers mid) (table first) (table mid) step.0 step.1 es rs ks c.requires.ready in
    let taken : is_some (get id before) ≡ true = is_taken_by mid id n c.in_ok-number.ensures.number (table mid) es c.args.marks.now.items c.deref.result.now rs ks ready c.requires.marked c.deref.ensures.value now (ids answer mid) (c.in_ok-number.ensures.same answer) c.is_taken.result true (c.is_taken.ensures id c.in_ok-number.ensures.number answer) c.if-is_taken.true in
    ap (map error_view) c.in_ok-push.ensures.items
    ∙ (map-append error_view c.args.errors.now.items _
    ∙ (ap (λ x. so ++ x ∷ []) c.in_ok-left.ensures
    ∙ sym (ap (λ l. so ++ l) (ap (λ p. not_added p before) (one_at es c.args.index e there) ∙ told_taken e _ c.in-Some.ensures.some before taken))))

pub returns-in_err-mark-clause-grown : goal.returns-in_err-mark-clause-grown
returns-in_err-mark-clause-grown g c = c.number_of.ensures.grown

pub returns-in_err-mark-clause-same : goal.returns-in_err-mark-clause-same
returns-in_err-mark-clause-same g c = λ answer. c.number_of.ensures.same answer

pub returns-clause-ready : goal.returns-clause-ready
returns-clause-ready g c =
    let es = c.args.entries.now in
    let e = c.index-entries-index.result in
    let first = c.args.known.now in
    let mid = c.number_of.new.self in
    let step = c.in_ok-number.ensures.grown in
    let there = slice_get_read es _ c.args.index e refl c.requires.within c.index-entries-index.is in
    on_ok_weaker c.make_ready.result
    (λ ready. ready es (e, there, c.in-Some.ensures.some) (ready_still (numbers first) (numbers mid) (table first) (table mid) step.0 step.1 es c.args.waiting.now.list.items c.args.waiting.now.kept.items c.requires.ready))
    c.make_ready.ensures.ready

pub returns-clause-after : goal.returns-clause-after
returns-clause-after g c =
    let es = c.args.entries.now in
    let e = c.index-entries-index.result in
    let rs = c.args.waiting.now.list.items in
    let ks = c.args.waiting.now.kept.items in
    let first = c.args.known.now in
    let mid = c.number_of.new.self in
    let step = c.in_ok-number.ensures.grown in
    let id = c.in-Some.parts.id.now in
    let n = c.in_ok-number.number in
    let there = slice_get_read es _ c.args.index e refl c.requires.within c.index-entries-index.is in
    let ready = ready_still (numbers first) (numbers mid) (table first) (table mid) step.0 step.1 es rs ks c.requires.ready in
    on_ok_weaker c.make_ready.result
    (λ more answer.
    let now = ids answer first in
    let before = set_all (given_by es rs) now in
    let free : is_some (get id before) ≡ false = is_taken_by mid id n c.in_ok-number.ensures.number (table mid) es c.args.marks.now.items c.deref.result.now rs ks ready c.requires.marked c.deref.ensures.value now (ids answer mid) (c.in_ok-number.ensures.same answer) c.is_taken.result false (c.is_taken.ensures id c.in_ok-number.ensures.number answer) c.if-is_taken.false in
    ap (λ ws. set_all ws now) (more es)
    ∙ (set_more (given_by es rs) (given_at es c.args.index) now
    ∙ (ap (λ p. set_all (given p) before) (one_at es c.args.index e there)
    ∙ (added_free e _ c.in-Some.ensures.some before free
    ∙ sym (ap (λ p. added p before) (one_at es c.args.index e there))))))
    c.make_ready.ensures.more

pub returns-clause-told : goal.returns-clause-told
returns-clause-told g c =
    let es = c.args.entries.now in
    let e = c.index-entries-index.result in
    let rs = c.args.waiting.now.list.items in
    let ks = c.args.waiting.now.kept.items in
    let first = c.args.known.now in
    let mid = c.number_of.new.self in
    let step = c.in_ok-number.ensures.grown in
    let id = c.in-Some.parts.id.now in
    let n = c.in_ok-number.number in
    let so = map error_view c.args.errors.now.items in
    let there = slice_get_read es _ c.args.index e refl c.requires.within c.index-entries-index.is in
    let ready = ready_still (numbers first) (numbers mid) (table first) (table mid) step.0 step.1 es rs ks c.requires.ready in
    on_ok_weaker c.make_ready.result
    (λ more answer.
    let now = ids answer first in
    let before = set_all (given_by es rs) now in
    let free : is_some (get id before) ≡ false = is_taken_by mid id n c.in_ok-number.ensures.number (table mid) es c.args.marks.now.items c.deref.result.now rs ks ready c.requires.marked c.deref.ensures.value now (ids answer mid) (c.in_ok-number.ensures.same answer) c.is_taken.result false (c.is_taken.ensures id c.in_ok-number.ensures.number answer) c.if-is_taken.false in
    sym (ap (λ l. so ++ l) (ap (λ p. not_added p before) (one_at es c.args.index e there) ∙ told_free e _ c.in-Some.ensures.some before free) ∙ append-nil so))
    c.make_ready.ensures.more

pub returns-clause-marked : goal.returns-clause-marked
returns-clause-marked g c =
    on_ok_weaker c.make_ready.result
    (λ number n. c.in_ok-mark.ensures n ∙ (ap (λ b. nat_eq c.in_ok-number.number n || b) (c.requires.marked n) ∙ (either (nat_eq c.in_ok-number.number n) (has_number c.args.waiting.now.list.items n) ∙ sym (number n))))
    c.make_ready.ensures.number

pub returns-clause-grown : goal.returns-clause-grown
returns-clause-grown g c = grown_twice c.args.known.now c.number_of.new.self c.make_ready.new.known c.in_ok-number.ensures.grown c.make_ready.ensures.grown

pub returns-clause-same : goal.returns-clause-same
returns-clause-same g c = λ answer. c.make_ready.ensures.same answer ∙ c.in_ok-number.ensures.same answer
