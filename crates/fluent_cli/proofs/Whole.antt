-- Whether files can't be read, by how many.
use Rattle.std.proofs.Common.{◌≡◌, ◌==◌, true, List, [], length}
use Rattle.std.proofs.lemmas.Bool.{eqb-true}
use Rattle.std.proofs.lemmas.List.{nil_from_length}

pub empty : {X : Type 0} (xs : List X) → (length xs == 0) ≡ true → xs ≡ []
empty xs zero = nil_from_length xs (eqb-true (length xs) 0 zero)
