-- The plural operands n, i, v, w, f and t of Unicode TR35 (Part 3, Plural Operand Meanings).
use Rattle.std.specs.Prelude.{◌≡◌, ◌≢◌, ℕ, ℤ, pos, ◌-◌, ◌*◌, ◌/◌, ◌%◌, ◌^◌, ◌≤◌, ◌⊎◌, max, min, unsigned_abs, Option, None, Some}
use Rattle.fluent_intl.specs.Decimal.{significant_places}
use Rattle.fluent_intl.specs.declared.operands.PluralOperands.{PluralOperands}

-- the digits that a minimum of fraction digits shows at least; above 18 it counts as 18
abbrev pub least_places : Option ℕ → ℕ
least_places None = 0
least_places (Some minimum) = min minimum 18

-- the number that is written with this count of digits is the fraction of z, which counts 10^-18
abbrev pub IsFraction : ℤ → ℕ → ℕ → Type 0
IsFraction z digits count = (count ≤ 18) × (digits * 10 ^ (18 - count) ≡ unsigned_abs z % 10 ^ 18)

-- the operands of the number z, which counts 10^-18, shown with a minimum of fraction digits
pub record IsOperands (z : ℤ) (minimum : Option ℕ) (o : PluralOperands) : Type 0 where
  -- n is the absolute value
  pub absolute : o.n ≡ pos (unsigned_abs z)
  -- i is its whole part
  pub whole : o.i ≡ unsigned_abs z / 10 ^ 18
  -- t is the fraction written with w digits, of which the last is not 0
  pub trimmed : IsFraction z o.t o.w
  pub no_zero_at_end : (o.w ≡ 0) ⊎ (o.t % 10 ≢ 0)
  -- v digits are shown: those w, and as many zeros after them as the minimum asks for
  pub count_shown : o.v ≡ max o.w (least_places minimum)
  -- f is the fraction written with v digits
  pub shown : IsFraction z o.f o.v

-- those operands, written out
unfoldable pub operands_of : ℤ → Option ℕ → PluralOperands
operands_of z minimum =
    let size = unsigned_abs z in
    let fraction = size % 10 ^ 18 in
    let w = significant_places fraction in
    let v = max w (least_places minimum) in
    record { n = pos size; i = size / 10 ^ 18; v = v; w = w; f = fraction / 10 ^ (18 - v); t = fraction / 10 ^ (18 - w) }
