use Rattle.std.proofs.Common.{◌≡◌, ◌∙◌, ◌++◌, ◌||◌, ◌∷◌, [], ap, nat_eq, sym, subst, refl, is_some, true, false, Bool, List, ℕ}
use Rattle.fluent_adding.specs.Inside.WaitingEntries.{AreReady, Waits, given_by, has_number}
use Rattle.fluent_bundle_entries.specs.IdNumbers.{numbers, table}
use Rattle.fluent_adding.specs.declared.ready.Ready.{Ready}
use Rattle.fluent_adding.proofs.Waiting.{given_more, is_ready, ready_more, ready_still}
use Rattle.fluent_adding.proofs.adding.make_ready.Goals as goal

either : (a b c : Bool) → (a || (b || c)) ≡ ((a || b) || c)
either true b c = refl
either false b c = refl

or_none : (b : Bool) → (b || false) ≡ b
or_none true = refl
or_none false = refl

-- one number more
has_more : (n : ℕ) (r : Ready) (rs : List Ready) → has_number (rs ++ r ∷ []) n ≡ (has_number rs n || nat_eq r.number n)
has_more n r [] = or_none (nat_eq r.number n)
has_more n r (x ∷ rs) = ap (λ b. nat_eq x.number n || b) (has_more n r rs) ∙ either (nat_eq x.number n) (has_number rs n) (nat_eq r.number n)

pub returns-clause-ready : goal.returns-clause-ready
returns-clause-ready g c = λ es here h.
    let first = c.args.known.now in
    let last = c.kept_of.new.known in
    let n = numbers last in
    let t = table last in
    let step = c.in_ok-kept.ensures.grown in
    let o = c.in_ok-kept.kept in
    let rs = c.args.waiting.now.list.items in
    let ks = c.args.waiting.now.kept.items in
    let r : Ready = record { index = c.args.index; number = c.args.number; is_linked = is_some o } in
    let waits : Waits n t es r o = (refl, here.0, here.1, is_ready n t c.args.number o here.0 c.args.parts here.2 (step.0 c.args.parts.id.now c.args.number c.requires) c.in_ok-kept.ensures.linked) in
    subst (λ rs. AreReady n t es rs c.push.new.self.kept.items) (sym c.in_ok-push.ensures.list)
    (subst (AreReady n t es (rs ++ r ∷ [])) (sym c.in_ok-push.ensures.kept)
    (ready_more n t es r o waits rs ks (ready_still (numbers first) n (table first) t step.0 step.1 es rs ks h)))

pub returns-clause-more : goal.returns-clause-more
returns-clause-more g c = λ es. ap (given_by es) c.in_ok-push.ensures.list ∙ given_more es c.args.waiting.now.list.items _

pub returns-clause-number : goal.returns-clause-number
returns-clause-number g c = λ n. ap (λ rs. has_number rs n) c.in_ok-push.ensures.list ∙ has_more n _ c.args.waiting.now.list.items
