-- Numbers of a category, and texts in texts.
use Rattle.std.proofs.Common.{◌≡◌, ℕ, ◌+◌, ◌<◌, Bool, ◌||◌, [], ◌∷◌, ◌++◌, cond, filter, length, drop, nat_eq, sym, ap, ◌∙◌, zero-add}
use Rattle.std.specs.List.{range_with_len, starts_with}
use Rattle.std.proofs.lemmas.List.{at_drop_more, map-id}
use Rattle.std.proofs.lemmas.List.FromFn.{filter_of_map_range_with_len_more}
use Rattle.fluent_ast.specs.Tree.{Text}
use Rattle.fluent_patterns.specs.Categories.{stands_in}

pub numbers_more : (p : ℕ → Bool) (n : ℕ) → filter p (range_with_len 0 (n + 1)) ≡ filter p (range_with_len 0 n) ++ cond (p n) (n ∷ []) []
numbers_more p n =
    ap (filter p) (sym (map-id (range_with_len 0 (n + 1))))
    ∙ (filter_of_map_range_with_len_more p (λ x. x) 0 n n (zero-add n)
    ∙ ap (λ l. filter p l ++ cond (p n) (n ∷ []) []) (map-id (range_with_len 0 n)))

pub stands_in_next : (part bytes : Text) (at : ℕ) → at < length bytes → stands_in part (drop at bytes) ≡ (starts_with nat_eq (drop at bytes) part || stands_in part (drop (at + 1) bytes))
stands_in_next part bytes at h =
    at_drop_more (stands_in part) bytes at 0 h
    ∙ ap (λ b. b || stands_in part (drop (at + 1) bytes)) (sym (at_drop_more (λ l. starts_with nat_eq l part) bytes at 0 h))
