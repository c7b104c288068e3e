use Rattle.std.proofs.Common.{ap, sym, arith, ◌∙◌, ◌≡◌, Some, cond, drop, true, false, ◌+◌}
use Rattle.std.specs.Cow.{cow_str_bytes}
use Rattle.std.specs.FinMap.{find}
use Rattle.std.specs.Str.{bytes_eq}
use Rattle.fluent_values.specs.Facts.Keyed.{both}
use Rattle.fluent_values.specs.Facts.Pairs.{bytes_cmp, find_left, find_none_left}
use Rattle.fluent_values.specs.View.{named, value_view}
use Rattle.fluent_values.proofs.args.FluentArgs.among_few.Goals as goal

pub loop-pair-init : goal.loop-pair-init
unfolding named
loop-pair-init g c = ap (λ xs. find bytes_cmp c.args.name.now (both cow_str_bytes (value_view g.C.FluentType.content) xs)) (sym c.as_slice-pair-items.ensures.value)

pub returns-then-eq : goal.returns-then-eq
returns-then-eq g c =
    let of = value_view g.C.FluentType.content in
    let pairs = c.as_slice-pair-items.result.now in
    let i = c.loop-pair.pair-index in
    let pair = c.pair-item.result in
    let name = c.args.name.now in
    let same : bytes_eq name (cow_str_bytes pair.0) ≡ true = ap (bytes_eq name) (sym c.as_str.ensures.value) ∙ sym c.eq.ensures ∙ c.if-eq.true in
    sym (c.loop-pair.invariant ∙ find_left cow_str_bytes of pairs i pair name c.loop-pair-test.true c.pair-item.is
    ∙ ap (λ b. cond b (Some (of pair.1)) (find bytes_cmp name (both cow_str_bytes of (drop (i + 1) pairs)))) same)

pub loop-pair-preserved : goal.loop-pair-preserved
loop-pair-preserved g c =
    let of = value_view g.C.FluentType.content in
    let pairs = c.as_slice-pair-items.result.now in
    let i = c.loop-pair.pair-index in
    let pair = c.pair-item.result in
    let name = c.args.name.now in
    let other : bytes_eq name (cow_str_bytes pair.0) ≡ false = ap (bytes_eq name) (sym c.as_str.ensures.value) ∙ sym c.eq.ensures ∙ c.if-eq.false in
    c.loop-pair.invariant ∙ find_left cow_str_bytes of pairs i pair name c.loop-pair-test.true c.pair-item.is
    ∙ ap (λ b. cond b (Some (of pair.1)) (find bytes_cmp name (both cow_str_bytes of (drop (i + 1) pairs)))) other

pub returns : goal.returns
returns g c = sym (c.loop-pair.invariant ∙ find_none_left cow_str_bytes (value_view g.C.FluentType.content) c.as_slice-pair-items.result.now c.loop-pair.pair-index c.args.name.now (omega (arith, c.loop-pair-test.false)))
