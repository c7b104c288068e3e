-- The steps of a scan.
use Rattle.std.proofs.Common.{◌≡◌, ℕ, ◌+◌, ◌-◌, ◌<◌, ◌≤◌, drop, take, length, get_or, refl, arith}
use Rattle.std.proofs.lemmas.List.{drop_more, take_rest}
use Rattle.std.proofs.Math.ListN.{drop_of_length-le}
use Rattle.fluent_text.specs.Parser.{Text}
use Rattle.fluent_patterns.specs.Marks.{Scan, scan, step}

-- over one byte more
pub scan-drop : (s : Text) (at : ℕ) (before now : Scan) → at < length s
    → now ≡ step at (get_or s at 0) (take (length s - (at + 1)) (drop (at + 1) s)) before
    → scan (at + 1) (drop (at + 1) s) now ≡ scan at (drop at s) before
unfolding scan
scan-drop s at before now within is = rw (is, take_rest s (at + 1), drop_more s at 0 within) refl

-- at the end
pub scan-end : (s : Text) (at : ℕ) (now : Scan) → length s ≤ at → scan at (drop at s) now ≡ now
unfolding scan
scan-end s at now past = let none = drop_of_length-le s past in rw none refl
