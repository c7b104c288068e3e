use Rattle.std.proofs.Common.{◌≡◌, ◌∙◌, sym, ap, arith, length, Some, None}
use Rattle.std.proofs.lemmas.Bool.{false≢true}
use Rattle.std.proofs.lemmas.List.{length-map}
use Rattle.std.specs.Cow.{cow_str_bytes}
use Rattle.fluent_references.specs.Slots.{slots, number, named}
use Rattle.fluent_references.proofs.Slotted.{position_by, if_ok, on_ok, named_new, number_new, slot_new, slot_stays}
use Rattle.fluent_references.proofs.slots.Slots.number_of.Goals as goal

pub returns-in-Some-clause-number : goal.returns-in-Some-clause-number
unfolding slots
returns-in-Some-clause-number g c =
    if_ok c.as_number.result c.in-Some.index (number (slots c.args.self.now) (cow_str_bytes c.args.id)) c.as_number.ensures.number
    (position_by cow_str_bytes (cow_str_bytes c.args.id) c.as_str.result.now c.args.self.now.ids.entries c.as_str.ensures.value
    ∙ (sym c.get_index_of.ensures.index ∙ c.in-Some.is))

pub add-requires : goal.add-requires
unfolding slots
add-requires g c =
    position_by cow_str_bytes (cow_str_bytes c.args.id) c.as_str.result.now c.args.self.now.ids.entries c.as_str.ensures.value
    ∙ (sym c.get_index_of.ensures.index ∙ c.in_default.is)

pub returns-clause-named : goal.returns-clause-named
unfolding slots
returns-clause-named g c = λ q.
    ap (named q) c.in_ok-add.ensures.ok ∙ named_new (slots c.args.self.now) (cow_str_bytes c.args.id) q

pub returns-in-Some-clause-ok : goal.returns-in-Some-clause-ok
unfolding slots
returns-in-Some-clause-ok g c =
    on_ok c.as_number.result (slot_stays (slots c.args.self.now) (cow_str_bytes c.args.id) c.in-Some.index
    (position_by cow_str_bytes (cow_str_bytes c.args.id) c.as_str.result.now c.args.self.now.ids.entries c.as_str.ensures.value
    ∙ (sym c.get_index_of.ensures.index ∙ c.in-Some.is)))

pub returns-clause-number : goal.returns-clause-number
unfolding slots
returns-clause-number g c =
    let id = cow_str_bytes c.args.id in
    let none : number (slots c.args.self.now) id ≡ None = position_by cow_str_bytes id c.as_str.result.now c.args.self.now.ids.entries c.as_str.ensures.value ∙ (sym c.get_index_of.ensures.index ∙ c.in_default.is) in
    ap (λ ss. number ss id) c.in_ok-add.ensures.ok
    ∙ (number_new (slots c.args.self.now) id None none
    ∙ ap Some (length-map c.args.self.now.ids.entries (λ e. (cow_str_bytes e.0, e.1)) ∙ (sym c.len.ensures.len ∙ sym c.in_ok-number.ensures.number)))

pub returns-clause-ok : goal.returns-clause-ok
unfolding slots
returns-clause-ok g c =
    let id = cow_str_bytes c.args.id in
    let none : number (slots c.args.self.now) id ≡ None = position_by cow_str_bytes id c.as_str.result.now c.args.self.now.ids.entries c.as_str.ensures.value ∙ (sym c.get_index_of.ensures.index ∙ c.in_default.is) in
    c.in_ok-add.ensures.ok ∙ sym (slot_new (slots c.args.self.now) id none)

pub returns-in-Some-clause-succeeds : goal.returns-in-Some-clause-succeeds
unfolding slots
returns-in-Some-clause-succeeds g c =
    let seen : length (slots c.args.self.now) ≡ length c.args.self.now.ids.entries = length-map c.args.self.now.ids.entries (λ e. (cow_str_bytes e.0, e.1)) in
    λ some few. c.as_number.ensures.succeeds (omega (arith, c.in-Some.ensures.within))

pub returns-in_err-number-clause-succeeds : goal.returns-in_err-number-clause-succeeds
unfolding slots
returns-in_err-number-clause-succeeds g c =
    let seen : length (slots c.args.self.now) ≡ length c.args.self.now.ids.entries = length-map c.args.self.now.ids.entries (λ e. (cow_str_bytes e.0, e.1)) in
    λ some few. absurd (false≢true (c.in_err-number.ensures.succeeds (omega (arith, c.len.ensures.len))))
