-- Parsers of bytes, and how rules are made of one another.
use Rattle.std.specs.Prelude.{ℕ, zero, suc, ◌+◌, Bool, true, false, cond, ◌==◌, nat_lt, if◌then◌else◌, List, [], ◌∷◌, ◌++◌, length, take, drop, slice_index, Option, Some, None}

-- a text, by its bytes
abbrev pub Text : Type 0
Text = List ℕ

-- a value and the text after it
abbrev pub Read : Type 0 → Type 0
Read A = Option (A × List ℕ)

abbrev pub Parser : Type 0 → Type 0
Parser A = List ℕ → Read A

-- one after the other
abbrev pub and_then : {A B : Type 0} → Read A → (A → Parser B) → Read B
and_then None f = None
and_then (Some p) f = f p.0 p.1

infixl 10 ◌>>=◌
abbrev pub ◌>>=◌ : {A B : Type 0} → Parser A → (A → Parser B) → Parser B
p >>= f = λ s. and_then (p s) f

infixl 10 ◌>>◌
abbrev pub ◌>>◌ : {A B : Type 0} → Parser A → Parser B → Parser B
p >> q = p >>= (λ _. q)

abbrev pub pure : {A : Type 0} → A → Parser A
pure a = λ s. Some (a, s)

infixr 11 ◌<$>◌
abbrev pub ◌<$>◌ : {A B : Type 0} → (A → B) → Parser A → Parser B
f <$> p = p >>= (λ x. pure (f x))

abbrev pub refuse : {A : Type 0} → Parser A
refuse = λ s. None

-- the first alternative that reads
abbrev pub otherwise : {A : Type 0} → Read A → Parser A → Parser A
otherwise None q s = q s
otherwise (Some p) q s = Some p

infixr 9 ◌<|>◌
abbrev pub ◌<|>◌ : {A : Type 0} → Parser A → Parser A → Parser A
p <|> q = λ s. otherwise (p s) q s

-- read, and nothing kept of it
abbrev pub ignore : {A : Type 0} → Parser A → Parser (Unit {0})
ignore p = p >> pure tt

-- taken where it can be
abbrev pub optional : {A : Type 0} → Parser A → Parser (Option A)
optional p = (Some <$> p) <|> pure None

-- the same, where nothing is kept of it
abbrev pub skip : {A : Type 0} → Parser A → Parser (Unit {0})
skip p = ignore p <|> pure tt

-- Greedy repetition, each value added to those before. The number bounds the turns; a turn that takes nothing is none.
abbrev pub go_on : {A B : Type 0} → (B → A → B) → (B → Parser B) → B → List ℕ → A × List ℕ → Bool → Read B
go_on add more acc s p true = more (add acc p.0) p.1
go_on add more acc s p false = Some (acc, s)

abbrev pub turn : {A B : Type 0} → (B → A → B) → (B → Parser B) → B → List ℕ → Read A → Read B
turn add more acc s None = Some (acc, s)
turn add more acc s (Some p) = go_on add more acc s p (nat_lt (length p.1) (length s))

unfoldable pub many_from : {A B : Type 0} → (B → A → B) → Parser A → ℕ → B → Parser B
many_from add p zero acc s = Some (acc, s)
many_from add p (suc n) acc s = turn add (many_from add p n) acc s (p s)

abbrev pub push : {A : Type 0} → List A → A → List A
push xs x = xs ++ x ∷ []

abbrev pub many : {A : Type 0} → Parser A → Parser (List A)
many p = λ s. many_from push p (length s) [] s

-- how many turns there are
abbrev pub one_more : {A : Type 0} → ℕ → A → ℕ
one_more n x = n + 1

abbrev pub count : {A : Type 0} → Parser A → Parser ℕ
count p = λ s. many_from one_more p (length s) 0 s

-- ---- bytes

abbrev pub first : List ℕ → ℕ
first s = slice_index s 0

-- this byte, which is not 0
unfoldable pub byte : ℕ → Parser (Unit {0})
byte c = λ s. if first s == c then Some (tt, drop 1 s) else None

-- how many bytes at the start pass, each with the byte after it (0 at the end)
abbrev pub run_len : (ℕ → ℕ → Bool) → List ℕ → ℕ
run_len p [] = 0
run_len p (c ∷ cs) = cond (p c (first cs)) (1 + run_len p cs) 0

-- the longest prefix whose bytes pass, which may be empty
abbrev pub run : (ℕ → ℕ → Bool) → Parser (List ℕ)
run p = λ s. Some (take (run_len p s) s, drop (run_len p s) s)

-- the same, where a byte passes
unfoldable pub run1 : (ℕ → ℕ → Bool) → Parser (List ℕ)
run1 p = λ s. if run_len p s == 0 then None else run p s
