-- The table of the bytes of identifiers.
use Rattle.std.proofs.Common.{◌≡◌, ◌==◌, ℕ, zero, suc, ◌<◌, Bool, true, false, not, ◌&&◌, get_or, refl, sym, arith, inl, inr}
use Rattle.std.proofs.lemmas.Bool.{cases_lt}
use Rattle.fluent_text.specs.Lexical.{is_identifier_byte}
use Rattle.fluent_syntax.specs.declared.parser.bytes.TheConstants.{NAME_BYTES}

abbrev same : Bool → Bool → Bool
same true b = b
same false b = not b

abbrev pub in_table : ℕ → Bool
in_table k = not (get_or NAME_BYTES k 0 == 0)

-- the table and the grammar agree on each byte below
abbrev agree : ℕ → Bool
agree zero = true
agree (suc k) = same (in_table k) (is_identifier_byte k 0) && agree k

all_agree : agree 256 ≡ true
all_agree = refl

same_is : (a b : Bool) → same a b ≡ true → a ≡ b
same_is true b e = sym e
same_is false true e = e
same_is false false e = refl

and_prefix : (a b : Bool) → (a && b) ≡ true → a ≡ true
and_prefix true b e = refl
and_prefix false b e = e

and_back : (a b : Bool) → (a && b) ≡ true → b ≡ true
and_back true b e = e
and_back false true e = refl
and_back false false e = e

below : (n k : ℕ) → agree n ≡ true → k < n → in_table k ≡ is_identifier_byte k 0
below zero k e h = absurd (omega arith)
below (suc n) k e h =
    elim (cases_lt k n) [
      | inl less ↦ below n k (and_back (same (in_table n) (is_identifier_byte n 0)) (agree n) e) less
      | inr last ↦
          let same_k : k ≡ n = omega arith in
          rw same_k (same_is (in_table n) (is_identifier_byte n 0) (and_prefix (same (in_table n) (is_identifier_byte n 0)) (agree n) e))
    ]

pub name_bytes : (k : ℕ) → k < 256 → in_table k ≡ is_identifier_byte k 0
name_bytes k h = below 256 k all_agree h
