-- Line feeds are counted part by part.
use Rattle.std.proofs.Common.{◌≡◌, ◌==◌, ℕ, zero, suc, ◌+◌, ◌-◌, ◌≤◌, min, List, [], ◌∷◌, ◌++◌, length, take, drop, count_by, refl, sym, ap, ◌∙◌, arith}
use Rattle.std.specs.List.{slice_range}
use Rattle.std.proofs.lemmas.List.{take_min}
use Rattle.std.proofs.lemmas.List.Sums.{sum_by-append}
use Rattle.fluent_ast.specs.Tree.{Text}
use Rattle.fluent_c_handles.specs.Calls.Adding.{line_at}

none_taken : (m : ℕ) → take {A = ℕ} m [] ≡ []
none_taken zero = refl
none_taken (suc m) = refl

taken_parts : (a m n : ℕ) (s : List ℕ) → n ≡ a + m → take n s ≡ take a s ++ take m (drop a s)
taken_parts zero m n s e = let same : n ≡ m = omega (arith, e) in ap (λ k. take k s) same
taken_parts (suc a) m n [] e = none_taken n ∙ sym (none_taken m)
taken_parts (suc a) m zero (x ∷ s) e = absurd (omega (arith, e))
taken_parts (suc a) m (suc n) (x ∷ s) e = ap (λ t. x ∷ t) (taken_parts a m n s (omega (arith, e)))

-- the line of an offset, by that of one before it
pub line_on : (source : Text) (a b line more : ℕ) → a ≤ b → line ≡ line_at source a → more ≡ count_by (λ c. c == 10) (slice_range source a b) → line + more ≡ line_at source b
line_on source a b line more le is counted =
    let parts : take b source ≡ take a source ++ slice_range source a b = taken_parts a (b - a) b source (omega arith) in
    let all = ap (count_by (λ c. c == 10)) parts ∙ sum_by-append _ (take a source) (slice_range source a b) in
    omega (arith, is, counted, all)

-- what is past the end counts as the end
pub line_within : (source : Text) (at : ℕ) → line_at source (min at (length source)) ≡ line_at source at
line_within source at = ap (λ t. 1 + count_by (λ c. c == 10) t) (take_min at source)
