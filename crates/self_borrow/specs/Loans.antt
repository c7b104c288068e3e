-- Many loans.
use Rattle.std.specs.Prelude.{◌≡◌, ℕ, List, [], ◌∷◌, ◌++◌}
use Rattle.std.specs.List.{All}
use Rattle.std.specs.declared.vec.Vec.{Vec}
use Rattle.self_borrow.specs.declared.loans.Loan.{Loan}

-- all are for one lifetime
abbrev pub AreFor : {A B : Type 0} → List ℕ → List (Loan A B) → Type 0
AreFor life loans = All (λ l. l.life ≡ life) loans

-- the new loans are the old ones, and after them one of the value
pub record IsWithOneOf {A B C : Type 0} (value : A) (old new : Vec (Loan A B) C) : Type 0 where
  pub loan : Loan A B
  pub after : new.items ≡ old.items ++ loan ∷ []
  pub of : loan.value ≡ value
