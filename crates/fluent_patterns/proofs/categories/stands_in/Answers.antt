use Rattle.std.proofs.Common.{◌≡◌, ◌∙◌, ◌||◌, false, ap, arith, drop, length, nat_eq, sym, take, ◌+◌, ◌-◌}
use Rattle.std.specs.List.{starts_with}
use Rattle.std.proofs.lemmas.List.{take_all}
use Rattle.std.proofs.Common.{length-drop}
use Rattle.fluent_patterns.specs.Categories.{stands_in}
use Rattle.fluent_patterns.proofs.CategoryNumbers.{stands_in_next}
use Rattle.fluent_patterns.proofs.categories.stands_in.Goals as goal

pub loop-at-preserved : goal.loop-at-preserved
loop-at-preserved c =
    let part = c.args.part.now in
    let bytes = c.as_bytes-bytes.result.now in
    let at = c.loop-at.at in
    let rest : take (length bytes - at) (drop at bytes) ≡ drop at bytes = take_all _ _ (omega (arith, length-drop at bytes)) in
    let no : starts_with nat_eq (drop at bytes) part ≡ false =
    ap (λ l. starts_with nat_eq l part) (sym rest)
    ∙ (ap (starts_with nat_eq (take (length bytes - at) (drop at bytes))) (sym c.as_bytes.ensures.value)
    ∙ (sym c.starts_with.ensures.value ∙ c.if-starts_with.false)) in
    ap (λ b. b || stands_in part (drop (at + 1) bytes)) (sym no) ∙ (sym (stands_in_next part bytes at c.loop-at-test.true) ∙ c.loop-at.invariant)
