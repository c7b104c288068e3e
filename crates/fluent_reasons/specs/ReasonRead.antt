-- How a result of the code stands to what a reader gives.
use Rattle.std.specs.Prelude.{◌≡◌, ℕ, List, Bool, Option, Some, None, Result, Ok, Err}
use Rattle.std.specs.Borrow.{Bor}
use Rattle.std.specs.declared.alloc.Global.{Global}
use Rattle.fluent_text.specs.Lexical.{is_identifier_byte, is_space, is_text, is_digit, is_quoted, is_function_byte}
use Rattle.fluent_reasons.specs.declared.bytes.Class.{Class}
use Rattle.fluent_reasons.specs.declared.bytes.Class.TheVariants.{Identifier, Space, Text, Digit, Quoted, Function}
use Rattle.fluent_reasons.specs.declared.stop.Turn.{Turn}
use Rattle.fluent_reasons.specs.declared.stop.Turn.TheVariants.{Again, Last}
use Rattle.fluent_reasons.specs.declared.stop.Stop.{Stop}
use Rattle.fluent_reasons.specs.declared.stop.Stop.TheVariants.{At, Memory}
use Rattle.fluent_reasons.specs.Stopping.{Reading, Reader}

abbrev pub class_test : Class → ℕ → ℕ → Bool
class_test Identifier = is_identifier_byte
class_test Space = is_space
class_test Text = is_text
class_test Digit = is_digit
class_test Quoted = is_quoted
class_test Function = is_function_byte

-- the result is what a reader gives, unless memory ran out
abbrev pub Gives : {A B : Type 0} → (A → B) → Result (A × Bor (List ℕ)) Stop → Reading B → Type 0
Gives view (Ok p) r = r ≡ Ok (view p.0, p.1.now)
Gives view (Err (At s e)) r = r ≡ Err (s.now, e)
Gives view (Err Memory) r = Unit {0}

-- the same of a reader that has no value
abbrev pub Passes : Result (Bor (List ℕ)) Stop → Reading (Unit {0}) → Type 0
Passes (Ok s) r = r ≡ Ok (tt, s.now)
Passes (Err (At s e)) r = r ≡ Err (s.now, e)
Passes (Err Memory) r = Unit {0}

-- what a function value requires of a text and a depth, and what it ensures of them and its answer
abbrev pub Pre : Type 0 → Type 1
Pre F = F → Global → Bor (List ℕ) → ℕ → Type 0

abbrev pub Post : Type 0 → Type 1
Post F = F → Global → Bor (List ℕ) → ℕ → Result (Bor (List ℕ)) Stop → Type 0

-- a function value gives what a reader gives, to this depth
pub record GivesRule (rule : Reader (Unit {0})) (depth : ℕ) (pre : Global → Bor (List ℕ) → ℕ → Type 0)
    (post : Global → Bor (List ℕ) → ℕ → Result (Bor (List ℕ)) Stop → Type 0) : Type 0 where
  pub callable : (alloc : Global) (s : Bor (List ℕ)) → pre alloc s depth
  pub reads : (alloc : Global) (s : Bor (List ℕ)) (r : Result (Bor (List ℕ)) Stop) → post alloc s depth r → Passes r (rule s.now)

-- whether a turn follows, and the text after this one
abbrev pub turn_view : Turn → Option (Unit {0}) × List ℕ
turn_view (Again s) = (Some tt, s.now)
turn_view (Last s) = (None, s.now)

-- the same of a turn of a loop
abbrev pub GivesTurn : Result Turn Stop → Reading (Option (Unit {0})) → Type 0
GivesTurn (Ok t) r = r ≡ Ok (turn_view t)
GivesTurn (Err (At s e)) r = r ≡ Err (s.now, e)
GivesTurn (Err Memory) r = Unit {0}

-- a name that was found, or none
abbrev pub name_view : Option (Bor (List ℕ)) → Option (List ℕ)
name_view None = None
name_view (Some n) = Some n.now
