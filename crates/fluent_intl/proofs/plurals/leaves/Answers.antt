use Rattle.std.proofs.Common.{arith, ◌≡◌, ◌%◌, ◌/◌, ◌^◌, ◌==◌, ◌&&◌, true, unsigned_abs, eq-eqb, ap, sym, ◌∙◌}
use Rattle.fluent_intl.proofs.Remainders.{leaves_parts}
use Rattle.fluent_intl.proofs.plurals.leaves.Goals as goal

pub returns-then-fraction-eq0 : goal.returns-then-fraction-eq0
returns-then-fraction-eq0 c =
    let size = unsigned_abs c.args.operands.now.n in
    let no_fraction : (size % 10 ^ 18 == 0) ≡ true = eq-eqb (size % 10 ^ 18) 0 (omega arith) in
    ap (λ n. n % c.args.divisor == c.args.remainder) c.whole.ensures
    ∙ sym (ap (λ b. b && (size / 10 ^ 18 % c.args.divisor == c.args.remainder)) no_fraction)
    ∙ leaves_parts size c.args.divisor c.args.remainder c.requires
