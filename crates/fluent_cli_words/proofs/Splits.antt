-- A text that has no byte of a kind.
use Rattle.std.proofs.Common.{◌≡◌, ℕ, Bool, false, List, length, ap, arith, ◌∙◌}
use Rattle.std.specs.List.{before_first, list_any, position_or_len}
use Rattle.std.proofs.Math.Seq.{take-length}
use Rattle.std.proofs.lemmas.List.Folds.{list_any_none}
use Rattle.std.proofs.lemmas.List.Sums.{fails_before_first}
use Rattle.std.specs.Prelude.{take}

pub none_in : (p : ℕ → Bool) (xs : List ℕ) → position_or_len p xs ≡ length xs → list_any p xs ≡ false
none_in p xs h = list_any_none p xs (λ k d lt. fails_before_first p xs k d (omega arith))

pub all_before : (p : ℕ → Bool) (xs : List ℕ) → position_or_len p xs ≡ length xs → before_first p xs ≡ xs
all_before p xs h = ap (λ n. take n xs) h ∙ take-length xs
