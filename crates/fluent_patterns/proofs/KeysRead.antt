-- What keys match, as the code reads them.
use Rattle.std.proofs.Common.{◌≡◌, ◌↔◌, ℕ, ℤ, pos, negsuc, ◌/◌, ◌%◌, ◌^◌, ◌<ℤ◌, Bool, true, false, IsTrue, Option, Some, None, int_lt, unsigned_abs, refl, sym, ap, ◌∙◌, rules}
use Rattle.std.proofs.lemmas.Bool.{false≢true}
use Rattle.fluent_ast.specs.Tree.{Text, number_key}
use Rattle.fluent_intl.specs.Decimal.{IsNoNumber, Reads}
use Rattle.fluent_semantics.specs.Number.{read_number}
use Rattle.fluent_semantics.specs.Users.{ReadsAsDefined}
use Rattle.fluent_patterns.specs.Selects.{a_text, a_number, read_sense, sense_of}

below_zero : (z : ℤ) → z <ℤ pos 0 → true ≡ int_lt z (pos 0)
below_zero z h = search rules

not_below_zero : (n : ℕ) → false ≡ int_lt (pos n) (pos 0)
not_below_zero n = search rules

sign_is : (b : Bool) (z : ℤ) → (IsTrue b ↔ (z <ℤ pos 0)) → b ≡ int_lt z (pos 0)
sign_is true z h = below_zero z (h.0 refl)
sign_is false (pos n) h = not_below_zero n
sign_is false (negsuc n) h = absurd (false≢true (h.1 (search rules)))

pub number_read : ReadsAsDefined → (t : Text) (z : ℤ) (places : Option ℕ) (minus : Bool) (whole fraction : ℕ)
    → Reads t z places → (IsTrue minus ↔ (z <ℤ pos 0)) → whole ≡ unsigned_abs z / 10 ^ 18 → fraction ≡ unsigned_abs z % 10 ^ 18 → a_number minus whole fraction places ≡ sense_of (number_key t)
number_read defined t z places minus whole fraction reads sign w f =
    ap (λ m. a_number m whole fraction places) (sign_is minus z sign)
    ∙ (ap (λ x. a_number (int_lt z (pos 0)) x fraction places) w
    ∙ (ap (λ x. a_number (int_lt z (pos 0)) (unsigned_abs z / 10 ^ 18) x places) f
    ∙ ap (read_sense t) (sym ((defined t z places).1 reads))))

unread : (t : Text) (o : Option (ℤ × Option ℕ)) → ((z : ℤ) (places : Option ℕ) → o ≡ Some (z, places) → ⊥) → a_text t ≡ read_sense t o
unread t None h = refl
unread t (Some r) h = absurd (h r.0 r.1 refl)

pub text_read : ReadsAsDefined → (t : Text) → IsNoNumber t → a_text t ≡ sense_of (number_key t)
text_read defined t h = unread t (read_number t) (λ z places e. h z places ((defined t z places).0 e))
