use Rattle.std.proofs.Common.{◌≡◌, ◌%◌, ◌/◌, ◌^◌, ◌-◌, max, unsigned_abs, ap, sym, subst, ◌∙◌}
use Rattle.fluent_intl.specs.Decimal.{significant_places}
use Rattle.fluent_intl.specs.Operands.{IsOperands, least_places, operands_of}
use Rattle.fluent_intl.proofs.OneOperands.{operands_are, operands_only}
use Rattle.fluent_intl.proofs.operands.PluralOperands.of.Goals as goal

pub returns-clause-value : goal.returns-clause-value
unfolding operands_of
returns-clause-value c =
    let fraction : c.fraction-fraction.result ≡ unsigned_abs c.args.value.now % 10 ^ 18 = c.fraction-fraction.ensures in
    let w : c.significant_places-w.result ≡ significant_places (unsigned_abs c.args.value.now % 10 ^ 18) = c.significant_places-w.ensures.value ∙ ap significant_places fraction in
    let v : c.max-v.result ≡ max (significant_places (unsigned_abs c.args.value.now % 10 ^ 18)) (least_places c.args.minimum) = c.max-v.ensures ∙ ap (λ n. max n c.places.result) w ∙ ap (λ n. max (significant_places (unsigned_abs c.args.value.now % 10 ^ 18)) n) c.places.ensures.value in
    λ i. record {
      n = c.absolute.ensures i;
      i = c.whole.ensures i;
      v = v i;
      w = w i;
      f = (c.digits.ensures ∙ (λ j. fraction j / 10 ^ (18 - v j))) i;
      t = (c.digits-2.ensures ∙ (λ j. fraction j / 10 ^ (18 - w j))) i;
    }

pub returns-clause-means : goal.returns-clause-means
returns-clause-means c =
    subst (IsOperands c.args.value.now c.args.minimum) (sym (returns-clause-value c)) (operands_are c.args.value.now c.args.minimum)

pub returns-clause-only : goal.returns-clause-only
returns-clause-only c = λ other h. operands_only c.args.value.now c.args.minimum other h ∙ sym (returns-clause-value c)
