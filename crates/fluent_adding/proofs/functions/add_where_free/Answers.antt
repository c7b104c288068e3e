use Rattle.std.proofs.Common.{◌≡◌, ◌∙◌, ◌++◌, ◌∷◌, [], ap, sym, subst, refl, map, is_some, false}
use Rattle.std.specs.Cow.{cow_str_bytes}
use Rattle.fluent_semantics.specs.Arguments.{get, set}
use Rattle.fluent_semantics.specs.Errors.{function_kind, overriding}
use Rattle.fluent_bundle_entries.specs.EntryView.{entry_of, ids}
use Rattle.fluent_bundle_entries.specs.ErrorView.{error_view}
use Rattle.fluent_bundle_entries.specs.IdNumbers.{Grown, numbers, table}
use Rattle.fluent_adding.proofs.Linking.{grown_by, grown_twice}
use Rattle.fluent_adding.proofs.OneId.{added_free, not_added_free, told_free, told_taken}
use Rattle.fluent_adding.proofs.functions.add_where_free.Goals.{then-is_known+in_ok-left+in_ok-push, else-is_known+in_ok-number}
use Rattle.fluent_adding.proofs.functions.add_where_free.Goals as goal

pub put-requires-clause-linked : goal.put-requires-clause-linked
put-requires-clause-linked g c = c.plain.ensures.linked (numbers c.number_of.new.self) (table c.number_of.new.self)

pub returns-in_err-number-clause-grown : goal.returns-in_err-number-clause-grown
returns-in_err-number-clause-grown g c = c.number_of.ensures.grown

pub returns-clause-grown : goal.returns-clause-grown
returns-clause-grown g c =
    let first = c.args.known.now in
    elim c.if-is_known.branch [
      | then-is_known+in_ok-left+in_ok-push w ↦ subst (Grown first) (sym w.known-is) (λ id n h. h, λ n p h. h)
      | else-is_known+in_ok-number w ↦
          let mid = w.number_of.new.self in
          let last = w.put.new.self in
          subst (Grown first) (sym w.known-is) (grown_twice first mid last w.number_of.ensures.grown (grown_by mid last w.put.ensures.numbers w.put.ensures.table))
    ]

pub returns-clause-after : goal.returns-clause-after
returns-clause-after g c = λ answer.
    let id = cow_str_bytes c.args.id in
    let e = entry_of answer c.args.function in
    let old = ids answer c.args.known.now in
    let tells : c.is_known.result ≡ is_some (get id old) = c.is_known.ensures answer ∙ ap (λ t. is_some (get t old)) c.as_str.ensures.value in
    elim c.if-is_known.branch [
      | then-is_known+in_ok-left+in_ok-push w ↦ ap (ids answer) w.known-is ∙ not_added_free id e old old refl (sym tells ∙ w.if-is_known.true)
      | else-is_known+in_ok-number w ↦
          let mid = ids answer w.number_of.new.self in
          let last = ids answer w.put.new.self in
          let same : mid ≡ old = w.number_of.ensures.same answer in
          let free : is_some (get id mid) ≡ false = ap (λ m. is_some (get id m)) same ∙ (sym tells ∙ w.if-is_known.false) in
          ap (ids answer) w.known-is ∙ added_free id e old mid last same free (w.put.ensures.after id w.in_ok-number.ensures.number answer ∙ ap (λ x. set id (entry_of answer x) mid) w.plain.ensures.entry)
    ]

pub returns-clause-errors : goal.returns-clause-errors
returns-clause-errors g c = λ answer.
    let id = cow_str_bytes c.args.id in
    let old = ids answer c.args.known.now in
    let tells : c.is_known.result ≡ is_some (get id old) = c.is_known.ensures answer ∙ ap (λ t. is_some (get t old)) c.as_str.ensures.value in
    elim c.if-is_known.branch [
      | then-is_known+in_ok-left+in_ok-push w ↦
          told_taken function_kind id old [] (map error_view c.if-is_known.errors.items) (sym tells ∙ w.if-is_known.true)
          (ap (λ v. map error_view v.items) w.errors-is
          ∙ (ap (map error_view) w.in_ok-push.ensures.items
          ∙ (ap (λ xs. map error_view (xs ++ w.in_ok-left.field-0 ∷ [])) c.new-errors.ensures.items
          ∙ (ap (λ x. x ∷ []) w.in_ok-left.ensures ∙ ap (λ t. overriding function_kind t ∷ []) w.as_str-then-is_known.ensures.value))))
      | else-is_known+in_ok-number w ↦
          ap (λ v. map error_view v.items) w.errors-is ∙ (ap (map error_view) c.new-errors.ensures.items ∙ told_free function_kind id old [] (sym tells ∙ w.if-is_known.false))
    ]
