use Rattle.std.proofs.Common.{◌≡◌, ◌∙◌, sym, ap, ◌∷◌, ◌++◌, [], map, take, ◌+◌, Some, None}
use Rattle.std.proofs.lemmas.List.{map_more, take_all}
use Rattle.std.specs.List.{filter_map}
use Rattle.fluent_langneg.specs.Lookup.{each_once, lookup}
use Rattle.fluent_langneg.specs.Inside.IndexAmong.{with_index}
use Rattle.fluent_langneg.proofs.Once.{push_some, push_none, some_before, some_number}
use Rattle.fluent_langneg.proofs.order.negotiate.Goals as goal
use Rattle.fluent_langneg.proofs.order.negotiate.Goals.{in-Some+in_ok-add_index-in-Some, in-None, in-Some-lookup+in_ok-add_index-in-Some-lookup, in-None-lookup}

pub loop-range-preserved : goal.loop-range-preserved
loop-range-preserved g c =
    let text = g.R.AsStr.text in
    let find = lookup (map g.A.AsStr.text c.args.available.now) in
    let i = c.loop-range.range-index in
    let before = map text (take i c.args.requested.now) in
    let x = c.range-item.result in
    let prefix : map text (take (i + 1) c.args.requested.now) ≡ before ++ text x ∷ [] =
    map_more text c.args.requested.now i x c.loop-range-test.true ∙ ap (λ y. before ++ text y ∷ []) (sym c.range-item.is) in
    elim c.match-lookup.branch [
      | in-Some+in_ok-add_index-in-Some w ↦
          let is : find (text x) ≡ Some w.in-Some.index = sym (w.in-Some.ensures ∙ ap find c.as_str.ensures) in
          let added : w.add_index.new.indices.items ≡ with_index c.loop-range.indices.items w.in-Some.index = w.in_ok-add_index-in-Some.ensures in
          rw w.indices-is (added ∙ ap (λ ps. with_index ps w.in-Some.index) c.loop-range.invariant ∙ sym (push_some find before (text x) w.in-Some.index is) ∙ ap (λ ts. each_once (filter_map find ts)) (sym prefix))
      | in-None w ↦
          let is : find (text x) ≡ None = sym (w.in-None.ensures ∙ ap find c.as_str.ensures) in
          rw w.indices-is (c.loop-range.invariant ∙ sym (push_none find before (text x) is) ∙ ap (λ ts. each_once (filter_map find ts)) (sym prefix))
    ]

pub returns-in_err-add_index-in-Some-clause-succeeds : goal.returns-in_err-add_index-in-Some-clause-succeeds
returns-in_err-add_index-in-Some-clause-succeeds g c = λ none.
    let text = g.R.AsStr.text in
    let find = lookup (map g.A.AsStr.text c.args.available.now) in
    let x = c.range-item.result in
    let is : find (text x) ≡ Some c.in-Some.index = sym (c.in-Some.ensures ∙ ap find c.as_str.ensures) in
    absurd (some_before find text c.args.requested.now c.loop-range.range-index x c.args.default.now c.in-Some.index c.loop-range-test.true (sym c.range-item.is) is none)

pub returns-in_err-add_index-in-Some-lookup-clause-succeeds : goal.returns-in_err-add_index-in-Some-lookup-clause-succeeds
returns-in_err-add_index-in-Some-lookup-clause-succeeds g c = λ none.
    let text = g.R.AsStr.text in
    let find = lookup (map g.A.AsStr.text c.args.available.now) in
    absurd (some_number find (map text c.args.requested.now) c.args.default.now [] c.in-Some-lookup.index (sym c.in-Some-lookup.ensures) none)

pub returns-clause-order : goal.returns-clause-order
returns-clause-order g c =
    let text = g.R.AsStr.text in
    let find = lookup (map g.A.AsStr.text c.args.available.now) in
    let all = map text c.args.requested.now in
    let so_far : c.loop-range.indices.items ≡ each_once (filter_map find all) =
    c.loop-range.invariant ∙ ap (λ rs. each_once (filter_map find (map text rs))) (take_all c.loop-range.range-index c.args.requested.now c.loop-range-test.false) in
    elim c.match-lookup-2.branch [
      | in-Some-lookup+in_ok-add_index-in-Some-lookup w ↦
          let added : w.add_index-in-Some-lookup.new.indices.items ≡ with_index c.loop-range.indices.items w.in-Some-lookup.index = w.in_ok-add_index-in-Some-lookup.ensures in
          rw w.indices-is (added ∙ ap (λ ps. with_index ps w.in-Some-lookup.index) so_far ∙ sym (push_some find all c.args.default.now w.in-Some-lookup.index (sym w.in-Some-lookup.ensures)))
      | in-None-lookup w ↦
          rw w.indices-is (so_far ∙ sym (push_none find all c.args.default.now (sym w.in-None-lookup.ensures)))
    ]
