-- How long the text of a number is.
use Rattle.std.specs.Prelude.{◌≡◌, ℕ, ◌+◌, ◌/◌, ◌*◌, ◌^◌, ◌<◌, ◌≤◌, List, ◌++◌, length, map}
use Rattle.std.specs.Fmt.{decimal}
use Rattle.std.specs.List.{range_with_len}
use Rattle.std.proofs.Common.{arith, length-append}
use Rattle.std.proofs.lemmas.Fmt.{length-decimal-le}
use Rattle.std.proofs.lemmas.List.FromFn.{length-map-range_with_len}
use Rattle.std.proofs.lemmas.Nat.{div_below}
use Rattle.fluent_intl.specs.Decimal.{place_digit}

pub whole_below : (size : ℕ) → size < 2 ^ 64 * 10 ^ 18 → size / 10 ^ 18 < 2 ^ 64
whole_below size small = div_below size (10 ^ 18) (2 ^ 64) (omega arith) small

pub length-whole-le : (n : ℕ) → n < 2 ^ 64 → length (decimal n) ≤ 20
length-whole-le n small = length-decimal-le 20 n (omega arith) (omega (arith, small)) small

pub length-places : (f k : ℕ) (after : List ℕ) → length (map (place_digit f) (range_with_len 1 k) ++ after) ≡ k + length after
length-places f k after = omega (arith, length-append (map (place_digit f) (range_with_len 1 k)) after, length-map-range_with_len (place_digit f) 1 k)
