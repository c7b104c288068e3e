use Rattle.std.proofs.Common.{◌≡◌, ◌-◌, ◌≤◌, suc, false, length, arith, sym, refl, ◌∙◌, rules, take}
use Rattle.fluent_langneg.specs.Lookup.{ends_in_single}
use Rattle.fluent_langneg.proofs.Prefixes.{next_tried, shortened-prefixes}
use Rattle.fluent_langneg.proofs.tags.cut.Goals as goal

pub loop-end-init : goal.loop-end-init
loop-end-init c = rw (shortened-prefixes c.args.range.now) refl

pub returns-then-not-ends_in_single-clause-steps : goal.returns-then-not-ends_in_single-clause-steps
returns-then-not-ends_in_single-clause-steps c =
    let end = c.loop-end.end in
    let next : end ≡ suc (end - 1) = omega arith in
    let below : end - 1 ≤ length c.args.range.now = omega arith in
    let long : ends_in_single (take (end - 1) c.args.range.now) ≡ false = search rules in
    next_tried c.args.range.now (end - 1) end below next (sym c.is_separator.ensures ∙ c.if-is_separator.true) long c.loop-end.invariant
