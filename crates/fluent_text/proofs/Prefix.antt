-- A prefix of a piece that grows by a write.
use Rattle.std.specs.Prelude.{◌≡◌, ℕ, ◌-◌, List, ◌++◌, take, drop, length, None, Some, Option}
use Rattle.std.specs.Io.KnownBytes.{Appends}
use Rattle.std.proofs.Common.{sym, ◌∙◌, ap, append_assoc}
use Rattle.std.proofs.lemmas.List.{take_rest, take-append-drop}

-- known bytes that grow twice grow by both
pub appends_twice : (o p q : Option (List ℕ)) (xs ys : List ℕ) → Appends o p xs → Appends p q ys → Appends o q (xs ++ ys)
appends_twice None p q xs ys a b = tt
appends_twice (Some o) None q xs ys a b = absurd a
appends_twice (Some o) (Some p) None xs ys a b = absurd b
appends_twice (Some o) (Some p) (Some q) xs ys a b = b ∙ ap (λ w. w ++ ys) a ∙ append_assoc o xs ys

pub prefix_grows : (o p q : Option (List ℕ)) (piece prefix rest : List ℕ) (n : ℕ) → piece ≡ prefix ++ rest → Appends o p prefix → Appends p q (take n rest) → (f : List ℕ) × (piece ≡ f ++ take (length rest - n) (drop n rest)) × Appends o q f
prefix_grows o p q piece prefix rest n e a b = (
  prefix ++ take n rest,
  e ∙ ap (λ w. prefix ++ w) (sym (take-append-drop n rest)) ∙ sym (append_assoc prefix (take n rest) (drop n rest)) ∙ ap (λ w. prefix ++ take n rest ++ w) (sym (take_rest rest n)),
  appends_twice o p q prefix (take n rest) a b,
)
