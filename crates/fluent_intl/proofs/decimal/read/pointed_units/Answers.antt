use Rattle.std.proofs.Common.{arith, subst, sym, ap, length, ◌+◌, ◌<◌, ◌^◌}
use Rattle.std.specs.Str.Parse.{AllDigits, digits_value}
use Rattle.std.proofs.lemmas.List.{take_rest}
use Rattle.fluent_intl.proofs.DecimalPoints.{refuse_pointed, accept_pointed, small_part}
use Rattle.fluent_intl.proofs.decimal.read.pointed_units.Goals as goal
use Rattle.fluent_intl.proofs.decimal.read.pointed_units.Goals.{then-after-gt18-via-then-after-gt18, then-after-gt18-via-else-after-gt18+then-before-after-eq0}

pub returns-then-after-gt18 : goal.returns-then-after-gt18
returns-then-after-gt18 c = refuse_pointed c.args.text.now c.args.at c.requires (λ a b l v le.
    let same = ap length (take_rest c.args.text.now (c.args.at + 1)) in
    elim c.then-after-gt18.branch [ then-after-gt18-via-then-after-gt18 w ↦ omega (arith, same, le, w.if-after-gt18.true) | then-after-gt18-via-else-after-gt18+then-before-after-eq0 w ↦ omega (arith, same, l, w.if-before-after-eq0.true) ])

pub returns-in_default : goal.returns-in_default
returns-in_default c = refuse_pointed c.args.text.now c.args.at c.requires (λ a b l v le. c.in_default.ensures (a, v))

pub returns-in_default-value_of : goal.returns-in_default-value_of
returns-in_default-value_of c = refuse_pointed c.args.text.now c.args.at c.requires (λ a b l v le.
    let same = sym (take_rest c.args.text.now (c.args.at + 1)) in
    c.in_default-value_of.ensures (subst (AllDigits 10) same b, subst (λ x. digits_value 10 x < 2 ^ 64) same (small_part _ b le)))

pub returns : goal.returns
returns c = accept_pointed c.args.text.now _ c.args.at c.in-Some.whole c.in-Some-value_of.part c.pow.result (take_rest c.args.text.now (c.args.at + 1)) c.requires c.in-Some.ensures c.in-Some-value_of.ensures c.pow.ensures (omega (arith, c.if-after-gt18.false)) (omega (arith, c.if-before-after-eq0.false))
