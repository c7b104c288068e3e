-- Reading pairs of files one by one.
use Rattle.std.proofs.Common.{◌≡◌, ◌∙◌, ◌++◌, ◌⊎◌, true, false, cond, List, [], ◌∷◌, ap, ap₂, append_assoc, inl, inr, refl, sym}
use Rattle.std.specs.List.{zip}
use Rattle.fluent_cli_report.specs.Unread.{Unread}
use Rattle.fluent_cli.specs.Files.{both_can_be_read, readable_pairs, unread_of, unread_pairs}
use Rattle.fluent_cli.specs.declared.reading.File.{File}

one_more : (pair : File × File) (rest : List (File × File)) → readable_pairs (pair ∷ rest) ≡ readable_pairs (pair ∷ []) ++ readable_pairs rest
one_more pair rest =
    elim (both_can_be_read pair) as (λ b. cond b (pair ∷ readable_pairs rest) (readable_pairs rest) ≡ cond b (pair ∷ []) [] ++ readable_pairs rest) [
      | true ↦ refl
      | false ↦ refl
    ]

-- what is left to read
pub left_more : (all before : List (File × File)) (x y : File) (xs ys xs' ys' : List File) → xs ≡ x ∷ xs' → ys ≡ y ∷ ys'
    → before ++ readable_pairs (zip xs ys) ≡ all → (before ++ readable_pairs ((x, y) ∷ [])) ++ readable_pairs (zip xs' ys') ≡ all
left_more all before x y xs ys xs' ys' first second left =
    append_assoc before (readable_pairs ((x, y) ∷ [])) (readable_pairs (zip xs' ys'))
    ∙ (ap (λ pairs. before ++ pairs) (sym (one_more (x, y) (zip xs' ys')))
    ∙ (ap₂ (λ us vs. before ++ readable_pairs (zip us vs)) (sym first) (sym second) ∙ left))

-- what is left that can't be read
pub unread_more : (all told told' : List Unread) (x y : File) (xs ys xs' ys' : List File) → xs ≡ x ∷ xs' → ys ≡ y ∷ ys'
    → told' ≡ told ++ (unread_of x ++ unread_of y) → told ++ unread_pairs (zip xs ys) ≡ all → told' ++ unread_pairs (zip xs' ys') ≡ all
unread_more all told told' x y xs ys xs' ys' first second more left =
    ap (λ t. t ++ unread_pairs (zip xs' ys')) more
    ∙ (append_assoc told (unread_of x ++ unread_of y) (unread_pairs (zip xs' ys'))
    ∙ (ap₂ (λ us vs. told ++ unread_pairs (zip us vs)) (sym first) (sym second) ∙ left))

pub zip_ended : (xs ys : List File) → (xs ≡ []) ⊎ (ys ≡ []) → zip xs ys ≡ []
zip_ended [] ys none = refl
zip_ended (x ∷ xs) [] none = refl
zip_ended (x ∷ xs) (y ∷ ys) none = elim none [ inl e ↦ absurd cc | inr e ↦ absurd cc ]
