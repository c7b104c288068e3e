-- Lines are added one after the other.
use Rattle.std.proofs.Common.{◌≡◌, ℕ, ◌+◌, ◌<◌, List, ◌++◌, length, get_or, map, drop, flat_map, sym, ap, ◌∙◌}
use Rattle.std.proofs.lemmas.List.{append_assoc, drop_more}
use Rattle.fluent_ast.specs.Tree.{Text}

-- the lines so far and those of the rest, after one more
pub line_more : {A B : Type 0} (v : A → B) (f : B → Text) (xs : List A) (i : ℕ) (d : A) (so new whole : Text) → i < length xs → new ≡ so ++ f (v (get_or xs i d)) → so ++ flat_map f (map v (drop i xs)) ≡ whole → new ++ flat_map f (map v (drop (i + 1) xs)) ≡ whole
line_more v f xs i d so new whole lt more so_far =
    let rest = flat_map f (map v (drop (i + 1) xs)) in
    ap (λ t. t ++ rest) more ∙ (append_assoc so (f (v (get_or xs i d))) rest ∙ (sym (ap (λ ys. so ++ flat_map f (map v ys)) (drop_more xs i d lt)) ∙ so_far))
