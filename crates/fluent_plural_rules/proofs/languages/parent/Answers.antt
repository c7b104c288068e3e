use Rattle.std.proofs.Common.{◌≡◌, ◌-◌, ◌<◌, suc, length, arith, sym, ◌∙◌}
use Rattle.fluent_plural_rules.proofs.TagLemmas.{shortened_before}
use Rattle.fluent_plural_rules.proofs.languages.parent.Goals as goal

pub returns-then-is_separator-clause-steps : goal.returns-then-is_separator-clause-steps
returns-then-is_separator-clause-steps c =
    let end = c.loop-end.end in
    let next : suc (end - 1) ≡ end = omega arith in
    let below : end - 1 < length c.args.tag.now = omega arith in
    shortened_before c.args.tag.now (end - 1) below (sym c.is_separator.ensures ∙ c.if-is_separator.true) (rw next c.loop-end.invariant)
