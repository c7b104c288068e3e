-- How a result stands to what the grammar gives.
use Rattle.std.specs.Prelude.{◌≡◌, ℕ, ◌<◌, ◌≤◌, length, drop, slice_index, List, map, Some, None, Result, Ok, Err, Vec}
use Rattle.std.specs.Borrow.{Bor}
use Rattle.std.specs.declared.alloc.Global.{Global}
use Rattle.fluent_syntax.specs.declared.parser.stop.Stop.{Stop}
use Rattle.fluent_syntax.specs.declared.parser.stop.Stop.TheVariants.{Absent, Memory}
use Rattle.fluent_text.specs.Parser.{Read, Parser, many_from, push, run_len}
use Rattle.fluent_text.specs.Lexical.{is_space}

-- the result is what the grammar gives, unless memory ran out
abbrev pub Gives : {A B : Type 0} → (A → B) → Result (A × Bor (List ℕ)) Stop → Read B → Type 0
Gives view (Ok p) r = r ≡ Some (view p.0, p.1.now)
Gives view (Err Absent) r = r ≡ None
Gives view (Err Memory) r = Unit {0}

abbrev pub all : {A B : Type 0} → (A → B) → Vec A Global → List B
all view v = map view v.items

-- the result is what was found before, and all that a rule gives after it, turn by turn
abbrev pub GivesMore : {A B : Type 0} → (A → B) → Result (Vec A Global × Bor (List ℕ)) Stop → Vec A Global → Parser B → List ℕ → Type 0
GivesMore view result found rule s = Gives (all view) result (many_from push rule (length s) (all view found) s)

abbrev pub text_view : Bor (List ℕ) → List ℕ
text_view t = t.now

-- n spaces stand at the start of the line, and the rest after them
pub record IsIndent (line : List ℕ) (n : ℕ) (rest : List ℕ) : Type 0 where
  pub len : n ≡ run_len is_space line
  pub within : n ≤ length line
  pub spaces : (k : ℕ) → k < n → slice_index line k ≡ 32
  pub follows : rest ≡ drop n line
