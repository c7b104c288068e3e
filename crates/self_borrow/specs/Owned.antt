-- What is owned behind a pointer, at home or on loan.
use Rattle.std.specs.Prelude.{ℕ, List, Option, None, Some, ⊤}
use Rattle.std.specs.Box.Ownership.{box_owns}
use base.Fraction.{full_share}
use base.Fml.{Fml, ftrue, fsep, flent}
use mir.Syntax.{Ty}
use mir.Raw.{raw}
use denote.RattleType.{RattleType}
use denote.Memory.{lone}
use denote.RawPtr.{Ptr, lies_at}

abbrev pub maybe_owns : (Ty → Ptr → Fml) → (R : RattleType) → Ptr → Option R.Denot → Fml
maybe_owns frees R p None = ftrue
maybe_owns frees R p (Some x) = box_owns frees R p x

abbrev pub loan_owns : (Ty → Ptr → Fml) → (R : RattleType) → List ℕ → Ptr → R.Denot → Fml
loan_owns frees R κ p x = fsep (flent κ (lies_at R full_share p x)) (frees (raw (lone R.mir)) p)

abbrev pub IsHeld : {A : Type 0} → Option A → Type 0
IsHeld None = ⊥
IsHeld (Some x) = ⊤
