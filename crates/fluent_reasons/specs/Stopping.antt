-- Readers that tell where they stop.
use Rattle.std.specs.Prelude.{ℕ, zero, suc, Bool, true, false, ◌==◌, length, drop, Option, Some, None, Result, Ok, Err}
use Rattle.fluent_text.specs.Parser.{Text, Read, Parser, first}
use Rattle.fluent_reasons.specs.declared.expected.Expected.{Expected}

-- a value and the text after it; or the text where a rule stopped, and what it expected there
abbrev pub Reading : Type 0 → Type 0
Reading A = Result (A × Text) (Text × Expected)

abbrev pub Reader : Type 0 → Type 0
Reader A = Text → Reading A

-- one after the other
abbrev pub and_then : {A B : Type 0} → Reading A → (A → Reader B) → Reading B
and_then (Ok p) f = f p.0 p.1
and_then (Err e) f = Err e

infixl 10 ◌>>=◌
abbrev pub ◌>>=◌ : {A B : Type 0} → Reader A → (A → Reader B) → Reader B
p >>= f = λ s. and_then (p s) f

infixl 10 ◌>>◌
abbrev pub ◌>>◌ : {A B : Type 0} → Reader A → Reader B → Reader B
p >> q = p >>= (λ _. q)

abbrev pub pure : {A : Type 0} → A → Reader A
pure a = λ s. Ok (a, s)

-- this was expected where that text begins
abbrev pub stop_at : {A : Type 0} → Text → Expected → Reader A
stop_at at e = λ s. Err (at, e)

-- this was expected here
abbrev pub stop : {A : Type 0} → Expected → Reader A
stop e = λ s. Err (s, e)

-- a rule of the grammar, whose value is left; where it can't be read, this was expected here
abbrev pub or_stop : {A : Type 0} → Text → Expected → Read A → Reading (Unit {0})
or_stop s e None = Err (s, e)
or_stop s e (Some p) = Ok (tt, p.1)

abbrev pub expect : {A : Type 0} → Expected → Parser A → Reader (Unit {0})
expect e p = λ s. or_stop s e (p s)

-- what follows a rule of the grammar where it can be read, else all of the text
abbrev pub rest_or : {A : Type 0} → Text → Read A → Text
rest_or s None = s
rest_or s (Some p) = p.1

abbrev pub past : {A : Type 0} → Parser A → Text → Text
past p s = rest_or s (p s)

abbrev pub pass : {A : Type 0} → Parser A → Reader (Unit {0})
pass p = λ s. Ok (tt, past p s)

-- over the next byte
abbrev pub over : Reader (Unit {0})
over = λ s. Ok (tt, drop 1 s)

-- the text that is left
abbrev pub here : Reader Text
here = λ s. Ok (s, s)

-- the first where this holds, else the second
abbrev pub choose : {A : Type 0} → Bool → Reader A → Reader A → Reader A
choose true p q = p
choose false p q = q

abbrev pub if_so : {A : Type 0} → (Text → Bool) → Reader A → Reader A → Reader A
if_so test p q = λ s. choose (test s) p q s

-- the first where this byte is next, else the second
abbrev pub if_next : {A : Type 0} → ℕ → Reader A → Reader A → Reader A
if_next c p q = λ s. choose (first s == c) p q s

-- something was taken since that text, else this was expected where it begins
abbrev pub some_since : Text → Expected → Reader (Unit {0})
some_since start e = λ s. choose (length s == length start) (stop_at start e) (pure tt) s

-- Turns, each of which says whether another follows it, and with what. Each takes some of the text, whose length so bounds them.
abbrev pub turned : {A : Type 0} → (A → Reader A) → A → Text → Option A → Reading A
turned more a s None = Ok (a, s)
turned more a s (Some b) = more b s

abbrev pub after_turn : {A : Type 0} → (A → Reader A) → A → Reading (Option A) → Reading A
after_turn more a (Err e) = Err e
after_turn more a (Ok p) = turned more a p.1 p.0

unfoldable pub turns : {A : Type 0} → (A → Reader (Option A)) → ℕ → A → Reader A
turns turn zero a s = Ok (a, s)
turns turn (suc n) a s = after_turn (turns turn n) a (turn a s)

abbrev pub repeat : {A : Type 0} → (A → Reader (Option A)) → A → Reader A
repeat turn a = λ s. turns turn (length s) a s

-- turns that hand nothing on: the answer of one that another follows, of the last, and all of them
abbrev pub again : Reader (Option (Unit {0}))
again = pure (Some tt)

abbrev pub enough : {A : Type 0} → Reader (Option A)
enough = pure None

abbrev pub repeated : Reader (Option (Unit {0})) → Reader (Unit {0})
repeated turn = repeat (λ _. turn) tt
