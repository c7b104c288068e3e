-- How far a name and an indent go.
use Rattle.std.proofs.Common.{◌≡◌, ℕ, ◌<◌, true, false, List, length, get_or, sym, arith}
use Rattle.fluent_text.specs.Parser.{run_len}
use Rattle.fluent_text.specs.Lexical.{is_identifier_byte, is_space}
use Rattle.fluent_syntax.proofs.TextRuns.{run_len-is}

abbrev pub AreOfName : List ℕ → ℕ → Type 0
AreOfName s m = (k : ℕ) → k < m → is_identifier_byte (get_or s k 0) 0 ≡ true

pub name_ends : (s : List ℕ) (m : ℕ) → m < length s → AreOfName s m → is_identifier_byte (get_or s m 0) 0 ≡ false → m ≡ run_len is_identifier_byte s
name_ends s m within pass stop = sym (run_len-is is_identifier_byte s m (omega arith) pass (λ h. stop))

pub name_to_end : (s : List ℕ) → AreOfName s (length s) → length s ≡ run_len is_identifier_byte s
name_to_end s pass = sym (run_len-is is_identifier_byte s (length s) (omega arith) pass (λ h. absurd (omega arith)))

pub spaces_end : (s : List ℕ) (m : ℕ) → m < length s → ((k : ℕ) → k < m → is_space (get_or s k 0) 0 ≡ true) → is_space (get_or s m 0) 0 ≡ false → m ≡ run_len is_space s
spaces_end s m within pass stop = sym (run_len-is is_space s m (omega arith) pass (λ h. stop))
