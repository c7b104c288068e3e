-- Literals and named arguments are read by their prefix and the two bytes after it.
use Rattle.std.proofs.Common.{◌≡◌, ◌==◌, length, ℕ, zero, suc, List, [], ◌∷◌, ◌++◌, drop, true, false, Bool, Some, None, refl, sym, ap, ◌∙◌, if◌then◌else◌, arith, eqb-true}
use Rattle.std.specs.Char.{is_ascii_hexdigit}
use Rattle.fluent_ast.specs.Tree.{string, number}
use Rattle.fluent_text.specs.Parser.{Read, Parser, ◌>>=◌, ◌>>◌, ◌<$>◌, ◌<|>◌, and_then, otherwise, pure, ignore, skip, count, one_more, many_from, first, byte, run1}
use Rattle.fluent_text.specs.Lexical.{is_quoted, identifier, blank}
use Rattle.fluent_syntax.specs.Expressions.{taken, source_of, hex_digit, hex_digits, escape, quoted_turn, string_literal, number_literal, number_parts, digits, literal, named_argument}
use Rattle.fluent_grammar_laws.proofs.Near.{shows, one_seen, end_seen, after_prefix, Near, NearTo, ShutsAt, NearMany, after, near_turns, near-bind, near-map, near-pure, near-then, near-or, near-ignore, near-if, near-run1, near-byte, shuts-ignore, shuts-run1, shuts-byte, sees_first, is_read, after_one, sourced}
use Rattle.fluent_grammar_laws.proofs.NearRules.{heedless-quoted, near-identifier, near-blanks, near-number_literal}

-- ---- where what follows reads at some places alone

abbrev NearToAt : {A : Type 0} → (List ℕ → Type 0) → Parser A → List ℕ → Read A → Type 0
NearToAt at p s None = Unit {0}
NearToAt at p s (Some q) = at q.1 → NearTo p s (Some q)

abbrev ReadsAt : {A : Type 0} → (List ℕ → Type 0) → Parser A → Type 0
ReadsAt {A = A} at p = (t : List ℕ) (q : A × List ℕ) → p t ≡ Some q → at t

followed : {A B : Type 0} (at : List ℕ → Type 0) (p : Parser A) (f : A → Parser B) (s : List ℕ) (a : A) (t : List ℕ) (r : Read B) → f a t ≡ r → NearToAt at p s (Some (a, t)) → ReadsAt at (f a) → NearTo (f a) t r → NearTo (p >>= f) s r
followed at p f s a t None e h k n = tt
followed at p f s a t (Some q) e h k n = after p f s a t (Some q) (h (k t q e)) n

bound_at : {A B : Type 0} (at : List ℕ → Type 0) (p : Parser A) (f : A → Parser B) (s : List ℕ) (r : Read A) → NearToAt at p s r → ((x : A) → ReadsAt at (f x)) → ((x : A) → Near (f x)) → NearTo (p >>= f) s (and_then r f)
bound_at at p f s None h k n = tt
bound_at at p f s (Some q) h k n = followed at p f s q.0 q.1 (f q.0 q.1) refl h (k q.0) ((n q.0).near q.1)

many_at : {A B : Type 0} (at : List ℕ → Type 0) (add : B → A → B) (p : Parser A) (acc : B) (s : List ℕ) (r : Read B) → NearMany at add p acc s r → NearToAt at (λ s. many_from add p (length s) acc s) s r
many_at at add p acc s None h = tt
many_at at add p acc s (Some q) h = λ here. let (u, e, more) = h here in (u, e, λ o same. more o (length (u ++ o)) same (omega arith))

sourced_at : {A : Type 0} (at : List ℕ → Type 0) (p : Parser A) (s : List ℕ) (r : Read A) → NearToAt at p s r → NearToAt at (source_of p) s (taken s r)
sourced_at at p s None h = tt
sourced_at at p s (Some q) h = λ here. sourced p s (Some q) (h here)

second_at : {A : Type 0} (at : List ℕ → Type 0) (p q : Parser A) (s : List ℕ) (r : Read A) → q s ≡ r → p s ≡ None → ShutsAt at p → ReadsAt at q → NearTo q s r → NearTo (p <|> q) s r
second_at at p q s None g n c k h = tt
second_at at p q s (Some x) g n c k (u, e, more) =
    (u, e, λ o same. ap (λ z. otherwise z q (u ++ o)) (c.shut_at s (u ++ o) (k s x g) (ap shows e ∙ sym (after_prefix u o x.1 same)) n) ∙ more o same)

chosen_at : {A : Type 0} (at : List ℕ → Type 0) (p q : Parser A) (s : List ℕ) (r : Read A) → p s ≡ r → NearTo p s r → ShutsAt at p → ReadsAt at q → Near q → NearTo (p <|> q) s (otherwise r q s)
chosen_at at p q s None n h c k m = second_at at p q s (q s) refl n c k (m.near s)
chosen_at at p q s (Some x) n (u, e, more) c k m = (u, e, λ o same. ap (λ z. otherwise z q (u ++ o)) (more o same))

near-or-at : {A : Type 0} (at : List ℕ → Type 0) (p q : Parser A) → Near p → ShutsAt at p → ReadsAt at q → Near q → Near (p <|> q)
near-or-at at p q h c k m = record { near = λ s. chosen_at at p q s (p s) refl (h.near s) c k m }

reads-byte : {A : Type 0} (c : ℕ) (p : Parser A) → ReadsAt (λ t. first t ≡ c) (byte c >> p)
unfolding byte
reads-byte {A = A} c p t q e = by (first t == c) refl e
  where
    by : (w : Bool) → (first t == c) ≡ w → and_then (if w then after_one t else None) (λ _. p) ≡ Some q → first t ≡ c
    by true g e = eqb-true (first t) c g
    by false g e = absurd (is_read q (sym e))

-- ---- escapes

near-one : Near after_one
near-one = record { near = at }
  where
    at : (s : List ℕ) → NearTo after_one s (after_one s)
    at [] = ([], refl, λ o same. ap (λ x. Some (tt {0}, drop 1 x)) (end_seen o same) ∙ ap (λ x. Some (tt {0}, x)) (sym (end_seen o same)))
    at (a ∷ s) = (a ∷ [], refl, λ o same. refl)

near-hex_digit : Near hex_digit
unfolding hex_digit
near-hex_digit = near-if (λ s. is_ascii_hexdigit (first s)) after_one (sees_first is_ascii_hexdigit) near-one

near-hex_digits : (n : ℕ) → Near (hex_digits n)
unfolding hex_digits
near-hex_digits zero = near-pure tt
near-hex_digits (suc n) = near-then hex_digit (hex_digits n) near-hex_digit (near-hex_digits n)

not_short : ShutsAt (λ t. first t ≡ 85) (byte 117 >> hex_digits 4)
unfolding byte
not_short = record { shut_at = λ s t here same e. let f : first t ≡ 85 = sym (one_seen s t same) ∙ here in rw f refl }

near-short : Near (byte 117 >> hex_digits 4)
near-short = near-then (byte 117) (hex_digits 4) (near-byte 117 refl) (near-hex_digits 4)

near-long : Near (byte 85 >> hex_digits 6)
near-long = near-then (byte 85) (hex_digits 6) (near-byte 85 refl) (near-hex_digits 6)

near-unicode : Near ((byte 117 >> hex_digits 4) <|> (byte 85 >> hex_digits 6))
near-unicode = near-or-at (λ t. first t ≡ 85) (byte 117 >> hex_digits 4) (byte 85 >> hex_digits 6) near-short not_short (reads-byte 85 (hex_digits 6)) near-long

near-escape : Near escape
unfolding escape
near-escape = near-then (byte 92) _ (near-byte 92 refl) (near-or (byte 92) _ (near-byte 92 refl) (shuts-byte 92) (near-or (byte 34) _ (near-byte 34 refl) (shuts-byte 34) near-unicode))

near-quoted_turn : Near quoted_turn
unfolding quoted_turn
near-quoted_turn = near-or (ignore (run1 is_quoted)) escape (near-ignore (run1 is_quoted) (near-run1 is_quoted heedless-quoted)) (shuts-ignore (run1 is_quoted) (shuts-run1 is_quoted heedless-quoted)) near-escape

-- at the quotation mark
pub no_turn : (t : List ℕ) → first t ≡ 34 → quoted_turn t ≡ None
unfolding quoted_turn run1 escape byte
no_turn [] e = absurd (omega (arith, e))
no_turn (a ∷ t) e = rw e refl

shuts-quoted_turn : ShutsAt (λ t. first t ≡ 34) quoted_turn
shuts-quoted_turn = record { shut_at = λ s t here same e. no_turn t (sym (one_seen s t same) ∙ here) }

abbrev pub to_quote : List ℕ → Parser (List ℕ)
to_quote t = byte 34 >> pure t

near-inside : Near (source_of (count quoted_turn) >>= to_quote)
near-inside = record {
  near = λ s. bound_at (λ t. first t ≡ 34) (source_of (count quoted_turn)) to_quote s (source_of (count quoted_turn) s)
      (sourced_at (λ t. first t ≡ 34) (count quoted_turn) s (count quoted_turn s)
      (many_at (λ t. first t ≡ 34) one_more quoted_turn 0 s (count quoted_turn s) (near_turns (λ t. first t ≡ 34) one_more quoted_turn (length s) 0 s near-quoted_turn shuts-quoted_turn (omega arith))))
      (λ x. reads-byte 34 (pure x)) (λ x. near-then (byte 34) (pure x) (near-byte 34 refl) (near-pure x));
}

pub near-string_literal : Near string_literal
unfolding string_literal
near-string_literal = near-then (byte 34) (source_of (count quoted_turn) >>= to_quote) (near-byte 34 refl) near-inside

-- ---- literals and named arguments

abbrev no_quote : List ℕ → Type 0
no_quote t = (first t == 34) ≡ false

not_string : ShutsAt no_quote (string <$> string_literal)
unfolding string_literal byte
not_string = record { shut_at = λ s t here same e. let f : (first t == 34) ≡ false = ap (λ x. x == 34) (sym (one_seen s t same)) ∙ here in rw f refl }

no_number : (t : List ℕ) → first t ≡ 34 → (number <$> number_literal) t ≡ None
unfolding number_literal number_parts digits run1 byte
no_number [] e = absurd (omega (arith, e))
no_number (a ∷ t) e = rw e refl

reads-number : ReadsAt no_quote (number <$> number_literal)
reads-number t q e = by (first t == 34) refl
  where
    by : (w : Bool) → (first t == 34) ≡ w → (first t == 34) ≡ false
    by false g = g
    by true g = absurd (is_read q (sym e ∙ no_number t (eqb-true (first t) 34 g)))

pub near-literal : Near literal
unfolding literal
near-literal = near-or-at no_quote (string <$> string_literal) (number <$> number_literal) (near-map string string_literal near-string_literal) not_string reads-number (near-map number number_literal near-number_literal)

pub near-named_argument : Near named_argument
unfolding named_argument
near-named_argument = near-bind identifier _ near-identifier (λ name. near-then (skip blank) _ near-blanks (near-then (byte 58) _ (near-byte 58 refl) (near-then (skip blank) _ near-blanks (near-bind literal _ near-literal (λ v. near-pure (name, v))))))
