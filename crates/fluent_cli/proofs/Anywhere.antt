-- A test that one of a list's elements passes.
use Rattle.std.proofs.Common.{◌≡◌, ◌||◌, Bool, List, [], ◌∷◌, ap, map, refl}
use Rattle.std.specs.List.{list_any}

pub any_mapped : {X Y : Type 0} (p : Y → Bool) (f : X → Y) → (xs : List X) → list_any (λ x. p (f x)) xs ≡ list_any p (map f xs)
any_mapped p f [] = refl
any_mapped p f (x ∷ xs) = ap (λ b. p (f x) || b) (any_mapped p f xs)
