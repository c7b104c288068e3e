-- A text as a value, by the law that reading by computation is reading as numbers define it.
use Rattle.std.proofs.Common.{◌≡◌, ℕ, ℤ, Option, Some, None, refl, sym, ap, ◌∙◌}
use Rattle.fluent_ast.specs.Tree.{Text}
use Rattle.fluent_intl.specs.Decimal.{Reads}
use Rattle.fluent_intl.specs.Number.{Number, ReadsNumber}
use Rattle.fluent_semantics.specs.Number.{read_number}
use Rattle.fluent_semantics.specs.Value.{Value, text_value, number_value, read_value, try_number}
use Rattle.fluent_semantics.specs.Users.{ReadsAsDefined}

pub number_read : ReadsAsDefined → (t : Text) (n : Number) → ReadsNumber t n → ◌≡◌ {A = Value Text} (number_value n) (try_number t)
number_read defined t n h = ap number_value h.3 ∙ sym (ap (read_value t) ((defined t h.0 h.1).1 h.2))

text_unread : (t : Text) (o : Option (ℤ × Option ℕ)) → ((z : ℤ) (places : Option ℕ) → o ≡ Some (z, places) → ⊥) → ◌≡◌ {A = Value Text} (text_value t) (read_value t o)
text_unread t None h = refl
text_unread t (Some r) h = absurd (h r.0 r.1 refl)

pub text_kept : ReadsAsDefined → (t : Text) → ((z : ℤ) (places : Option ℕ) → Reads t z places → ⊥) → ◌≡◌ {A = Value Text} (text_value t) (try_number t)
text_kept defined t h = text_unread t (read_number t) (λ z places e. h z places ((defined t z places).0 e))
