use Rattle.std.proofs.Common.{◌≡◌, length, arith}
use Rattle.std.proofs.lemmas.Bool.Decides.{nat_tests}
use Rattle.fluent_text.proofs.Unescapes.{plain_alone, all_plain, whole_run}
use Rattle.fluent_text.proofs.unicode.unescape_unicode_to_string.Goals as goal

pub returns-then-is_empty-clause-text : goal.returns-then-is_empty-clause-text
returns-then-is_empty-clause-text c =
    let none : length c.split_plain.result.1.now ≡ 0 = grind (arith, nat_tests) in
    plain_alone c.args.text.now c.split_plain.result.0.now c.split_plain.result.1.now c.split_plain.ensures.parts none

pub returns-then-is_empty-clause-borrowed : goal.returns-then-is_empty-clause-borrowed
returns-then-is_empty-clause-borrowed c =
    let none : length c.split_plain.result.1.now ≡ 0 = grind (arith, nat_tests) in
    λ plain. whole_run c.args.text.now c.split_plain.result.0.now c.split_plain.result.1.now c.split_plain.ensures.parts none

pub returns-in_err-resolved-clause-borrowed : goal.returns-in_err-resolved-clause-borrowed
returns-in_err-resolved-clause-borrowed c =
    let left : length c.split_plain.result.1.now ≡ 0 → ⊥ = λ e. grind (arith, nat_tests) in
    λ plain. absurd (left (all_plain c.args.text.now c.split_plain.result.0.now c.split_plain.result.1.now c.split_plain.ensures.parts plain))

pub returns-clause-borrowed : goal.returns-clause-borrowed
returns-clause-borrowed c =
    let left : length c.split_plain.result.1.now ≡ 0 → ⊥ = λ e. grind (arith, nat_tests) in
    λ plain. absurd (left (all_plain c.args.text.now c.split_plain.result.0.now c.split_plain.result.1.now c.split_plain.ensures.parts plain))
