-- When equality and hashing agree.
use Rattle.std.specs.Prelude.{◌≡◌, Bool, IsTrue}

-- two that are equal feed a hasher alike
abbrev pub HashAlike : {A B : Type 0} → (A → A → Bool) → (A → B) → Type 0
HashAlike {A} equal fed = (a b : A) → IsTrue (equal a b) → fed a ≡ fed b
