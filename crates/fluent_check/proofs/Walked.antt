-- Lists that grow by what each of some things adds.
use Rattle.std.proofs.Common.{◌≡◌, ℕ, ◌+◌, ◌<◌, List, [], ◌∷◌, ◌++◌, length, get_or, drop, sym, ap, ◌∙◌}
use Rattle.std.proofs.lemmas.List.{append_assoc, at_drop_more}

-- what is left of them after one more
pub one_more : {A B : Type 0} (all : List A → List B) (one : A → List B) → ((x : A) (xs : List A) → all (x ∷ xs) ≡ one x ++ all xs)
    → (xs : List A) (i : ℕ) (x : A) (old new whole : List B) → i < length xs → x ≡ get_or xs i x → old ++ all (drop i xs) ≡ whole → new ≡ old ++ one x → new ++ all (drop (i + 1) xs) ≡ whole
one_more all one each xs i x old new whole h is e added =
    ap (λ w. w ++ all (drop (i + 1) xs)) added ∙ (append_assoc old (one x) (all (drop (i + 1) xs)) ∙ (ap (λ w. old ++ w) (sym (at_drop_more all xs i x h ∙ (ap (λ w. all (w ∷ drop (i + 1) xs)) (sym is) ∙ each x (drop (i + 1) xs)))) ∙ e))
