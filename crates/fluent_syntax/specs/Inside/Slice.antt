-- How the reader keeps words: as a slice of the source that holds their indent too.
use Rattle.std.specs.Prelude.{◌≡◌, ℕ, ◌<◌, ◌≤◌, true, false, List, [], ◌∷◌, ◌++◌, length, drop, slice_index, Option, unwrap_or, is_some, IfSome, MatchOption}
use Rattle.std.specs.Borrow.{Bor}
use Rattle.fluent_syntax.specs.Layout.{Words, dedented}
use Rattle.fluent_syntax.specs.declared.parser.piece.Slice.TheInside.{Inside}

abbrev pub words_of : Inside → Words
words_of s = record { indent = s.indent; bytes = drop (unwrap_or s.indent 0) s.whole.now; fed = is_some s.fed }

pub record HoldsInside (s : Inside) : Type 0 where
  pub within : unwrap_or s.indent 0 ≤ length s.whole.now
  pub spaces : (k : ℕ) → k < unwrap_or s.indent 0 → slice_index s.whole.now k ≡ 32
  pub feed : IfSome s.fed (λ t. t.now ≡ s.whole.now ++ 10 ∷ [])

-- dedented words with the line feed that follows them directly; none where none does
abbrev pub IsFed : ℕ → Words → Option (Bor (List ℕ)) → Type 0
IsFed common w result = MatchOption result (w.fed ≡ false) (λ u. (w.fed ≡ true) × (u.now ≡ dedented common w ++ 10 ∷ []))
