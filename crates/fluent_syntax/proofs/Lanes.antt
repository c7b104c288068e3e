-- From the mask of one load of sixteen bytes to the bytes before the first that passes a test.
use Rattle.std.proofs.Common.{◌≡◌, ℕ, ◌+◌, ◌%◌, ◌^◌, ◌<◌, ◌≤◌, ◌==◌, Bool, true, false, not, ◌||◌, if◌then◌else◌, List, map, length, get_or, Fits, w8, sym, ap, ◌∙◌, arith}
use Rattle.std.proofs.lemmas.Bool.{agree_below, agree_below_at}
use Rattle.std.proofs.lemmas.Simd.{map-map, mask_l-mod, length-chunk, first_set_mask_l, run_in_chunk_le, run_in_chunk_fails, run_in_chunk_stops}
use Rattle.std.proofs.lemmas.List.{length-map}
use Rattle.std.specs.Int.{w64, trailing_zeros}
use Rattle.std.specs.List.{prefix_len}
use lib.Lanes.{chunk, mask_l, top}
use Rattle.memchr.specs.Find.{Nowhere, Passes}
use Rattle.fluent_syntax.proofs.TextRuns.{not_both}

abbrev first_set : ℕ → ℕ
first_set mask = if mask == 0 then 16 else trailing_zeros w64 mask

module _ (d : List ℕ) (i r : ℕ) (z : List ℕ) (room : i + 16 ≤ length d)
    (fits : (k : ℕ) → Fits w8 (get_or d k 0)) (found : r ≡ first_set (mask_l (map (top 7) z) % 2 ^ 64))
    (f : ℕ → ℕ) (lanes : z ≡ map f (chunk i 16 d)) where
  abbrev stops : ℕ → Bool
  stops x = top 7 (f x)

  counted : r ≡ prefix_len (λ x. not (stops x)) (chunk i 16 d)
  counted =
      let v = chunk i 16 d in
      let long = length-chunk i 16 d room in
      let mask = ap (λ l. mask_l l % 2 ^ 64) (ap (map (top 7)) lanes ∙ map-map (top 7) f v) ∙ mask_l-mod (map stops v) 64 (omega (arith, length-map v stops, long)) in
      found ∙ (ap first_set mask ∙ first_set_mask_l stops v 16 long (omega arith))

  pub run_within : r ≤ 16
  run_within = run_in_chunk_le stops d i 16 r 0 room counted

  goes_on : (k : ℕ) → i ≤ k → k < i + r → stops (get_or d k 0) ≡ false
  goes_on k from to = run_in_chunk_fails stops d i 16 r 0 room counted k from to

  -- each byte at which no lane stops passes q
  pub run_passes : (q : ℕ → Bool) → agree_below (λ x. stops x || q x) (λ _. true) 256 ≡ true → (k : ℕ) → i ≤ k → k < i + r → q (get_or d k 0) ≡ true
  run_passes q all k from to =
      sym (ap (λ b. b || q (get_or d k 0)) (goes_on k from to)) ∙ agree_below_at (λ x. stops x || q x) (λ _. true) 256 (get_or d k 0) all (fits k).fits

  -- a lane stops just where q holds
  pub run_free : (q : ℕ → Bool) → agree_below stops q 256 ≡ true → Nowhere (Passes q d) i (i + r)
  run_free q same k from to hit = not_both _ hit (sym (agree_below_at stops q 256 (get_or d k 0) same (fits k).fits) ∙ goes_on k from to)

  pub run_stops : (q : ℕ → Bool) → agree_below stops q 256 ≡ true → r < 16 → q (get_or d (i + r) 0) ≡ true
  run_stops q same short = sym (agree_below_at stops q 256 (get_or d (i + r) 0) same (fits (i + r)).fits) ∙ run_in_chunk_stops stops d i 16 r 0 room counted short
