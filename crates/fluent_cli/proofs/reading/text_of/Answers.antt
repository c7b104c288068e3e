use Rattle.std.proofs.Common.{◌≡◌, ◌∙◌, ◌+◌, ap₂, ℕ, Bool, true, false, List, ap, refl, subst}
use Rattle.std.specs.Str.{IsUtf8, is_utf8}
use Rattle.std.specs.Str.Lossy.{utf8_valid_len}
use Rattle.std.proofs.lemmas.Str.{IsUtf8-from_is_utf8, is_utf8-from_IsUtf8}
use Rattle.fluent_cli.proofs.reading.text_of.Goals as goal

not_text : (bs : List ℕ) → (IsUtf8 bs → ⊥) → is_utf8 bs ≡ false
not_text bs none =
    elim (is_utf8 bs) as (λ b. is_utf8 bs ≡ b → b ≡ false) [
      | true ↦ λ is. absurd (none (IsUtf8-from_is_utf8 bs is))
      | false ↦ λ is. refl
    ] refl

pub returns-in-Ok : goal.returns-in-Ok
returns-in-Ok c =
    (subst (λ bs. is_utf8 bs ≡ true) c.without_mark.ensures (is_utf8-from_IsUtf8 c.without_mark.result.now c.in-Ok.ensures.cases.1), c.in-Ok.ensures.cases.0 ∙ c.without_mark.ensures)

pub returns-in-Err : goal.returns-in-Err
returns-in-Err c = (
  subst (λ bs. is_utf8 bs ≡ false) c.without_mark.ensures (not_text c.without_mark.result.now c.in-Err.ensures.cases.0),
  ap₂ (λ start length. start + length) c.start_of.ensures.is
      (c.valid_up_to.ensures ∙ (c.in-Err.ensures.valid_len ∙ ap utf8_valid_len c.without_mark.ensures)),
)
