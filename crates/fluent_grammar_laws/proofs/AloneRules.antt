-- Names, blanks, literals, references and arguments read the same where what stands after them is taken away.
use Rattle.std.proofs.Common.{◌≡◌, ◌==◌, ℕ, zero, suc, ◌+◌, ◌-◌, ◌<◌, Bool, true, false, List, [], ◌∷◌, ◌++◌, length, take, drop, Some, None, if◌then◌else◌, refl, sym, ap, ◌∙◌, nat_lt, arith, length-append, length-drop, eqb-true, inl, inr}
use Rattle.std.proofs.lemmas.Bool.{cases_Bool}
use Rattle.std.proofs.lemmas.Bool.Decides.{nat_tests}
use Rattle.std.proofs.lemmas.List.{append_cancel_right}
use Rattle.fluent_ast.specs.Tree.{no_call, call, no_attribute, attribute, string, number, message, term, function, variable}
use Rattle.fluent_text.specs.Parser.{Read, Parser, ◌>>=◌, ◌>>◌, ◌<$>◌, ◌<|>◌, and_then, otherwise, pure, ignore, skip, count, one_more, many_from, run_len, run, run1, byte, first}
use Rattle.fluent_text.specs.Lexical.{is_letter, is_space, is_digit, is_quoted, is_identifier_byte, identifier, blank_inline, at_end, line_break, line_end, blank_turn, blank}
use Rattle.fluent_syntax.specs.Expressions.{level, taken, source_of, hex_digit, hex_digits, escape, quoted_turn, digits, number_parts, string_literal, number_literal, literal, attribute_access, message_reference, is_function_name, function_reference, optional_call, term_reference, variable_reference}
use Rattle.fluent_syntax.specs.Facts.Prefixes.{takes-nothing, takes-test, takes-drop}
use Rattle.fluent_syntax.specs.Facts.LexicalPrefixes.{takes-identifier, takes-at_end, takes-blanks}
use Rattle.fluent_grammar_laws.proofs.Near.{is_read}
use Rattle.fluent_grammar_laws.proofs.Known.{After, lefts, taken_one}
use Rattle.fluent_grammar_laws.proofs.Leads.{first_read, true_false, end_read, Starts, starts-bind, starts-byte, starts-number_literal, may_start_number}
use Rattle.fluent_grammar_laws.proofs.KnownRules.{is}
use Rattle.fluent_grammar_laws.proofs.KnownPatterns.{firm, placeable_by_prefix, call_by_prefix}
use Rattle.std.specs.Char.{is_ascii_hexdigit}
use Rattle.fluent_grammar_laws.proofs.NearStrings.{to_quote, no_turn}
use Rattle.fluent_grammar_laws.proofs.Alone.{one, Seam, Any, Alone, alone-weaker, alone-any, alone-bind, alone-then, alone-pure, alone-map, alone-provided, Way, alone-or, Lasts, way-lasts, way-clash, lasts-map, lasts-ignore, lasts-closed, alone-closed, Rests, Enters, alone-many, enters-any, alone-byte, lasts-byte, lasts-next, Easy, Still, alone-run1, Plain, alone-plain, alone-plain1, lasts-run1, none_run1, alone-source_of}

-- where nothing follows
abbrev pub nowhere : After
nowhere = record { may = λ w. Unit {0}; here = []; holds = tt }

-- ---- what is read alone is read before whatever follows

lasts-or : {A : Type 0} (p q : Parser A) → Lasts p → Lasts q → Lasts (p <|> q)
lasts-or {A = A} p q h k = record { lasts = λ s w e. by s w (p (s ++ w)) refl e }
  where
    by : (s w : List ℕ) (r : Read A) → p (s ++ w) ≡ r → otherwise r q (s ++ w) ≡ None → otherwise (p s) q s ≡ None
    by s w None e g = ap (λ r. otherwise r q s) (h.lasts s w e) ∙ k.lasts s w g
    by s w (Some z) e g = absurd (is_read z g)

none_first : {A B : Type 0} (r : Read A) (f : A → Parser B) → ((a : A) (t : List ℕ) → f a t ≡ None → ⊥) → and_then r f ≡ None → r ≡ None
none_first None f h e = refl
none_first (Some q) f h e = absurd (h q.0 q.1 e)

-- where what follows always reads
lasts-total : {A B : Type 0} (p : Parser A) (f : A → Parser B) → Lasts p → ((a : A) (t : List ℕ) → f a t ≡ None → ⊥) → Lasts (p >>= f)
lasts-total p f h total = record { lasts = λ s w e. ap (λ r. and_then r f) (h.lasts s w (none_first (p (s ++ w)) f total e)) }

pub skip_some : {A : Type 0} (p : Parser A) (s : List ℕ) → skip p s ≡ None → ⊥
skip_some {A = A} p s e = by (p s) e
  where
    by : (r : Read A) → otherwise (and_then r (λ _. pure (tt {0}))) (pure tt) s ≡ None → ⊥
    by None e = is_read (tt, s) e
    by (Some q) e = is_read (tt, q.1) e

alone-skip : {A : Type 0} (p : Parser A) → Alone Any p → Lasts p → Alone Any (skip p)
alone-skip p h k = alone-or Any (ignore p) (pure tt) (alone-map Any (λ _. tt) p h) (alone-pure Any tt) (way-lasts Any (ignore p) (pure tt) (lasts-ignore p k))

-- rules that begin with different bytes
pub way-starts : {A : Type 0} (at : Seam) (P Q : ℕ → Bool) (p q : Parser A) → Starts P p → Starts Q q → ((c : ℕ) → P c ≡ true → Q c ≡ true → ⊥) → Way at p q
way-starts at P Q p q h k apart = way-clash at p q (λ t y z e g. apart (first t) (h.start t y e) (k.start t z g))

-- ---- names

plain-identifier : Plain is_identifier_byte
plain-identifier = record { plain = λ a m n. refl }

plain-space : Plain is_space
plain-space = record { plain = λ a m n. refl }

plain-digit : Plain is_digit
plain-digit = record { plain = λ a m n. refl }

some_letters : (a : ℕ) (s : List ℕ) → is_letter a ≡ true → run_len is_identifier_byte (a ∷ s) ≡ suc (run_len is_identifier_byte s)
some_letters a s e = let pass : is_identifier_byte a (first s) ≡ true = grind (arith, nat_tests) in let n : 1 + run_len is_identifier_byte s ≡ suc (run_len is_identifier_byte s) = omega arith in rw pass n

pub alone-identifier : Alone Any identifier
unfolding identifier
alone-identifier = record { alone = λ s x v w here e. at s x v w e; takes = takes-identifier }
  where
    empty : (w x v : List ℕ) (b : Bool) → is_letter (first w) ≡ b → (if b then run is_identifier_byte w else None) ≡ Some (x, v ++ w) → ⊥
    empty w x v false g e = is_read (x, v ++ w) (sym e)
    empty [] x v true g e = true_false (is_letter 0) g refl
    empty (a ∷ w) x v true g e =
        let n = some_letters a w g in
        let d : drop (run_len is_identifier_byte (a ∷ w)) (a ∷ w) ≡ v ++ (a ∷ w) = lefts (take (run_len is_identifier_byte (a ∷ w)) (a ∷ w)) x (drop (run_len is_identifier_byte (a ∷ w)) (a ∷ w)) (v ++ (a ∷ w)) e in
        absurd (omega (arith, n, ap length d, length-drop (run_len is_identifier_byte (a ∷ w)) (a ∷ w), length-append v (a ∷ w)))

    by : (b : Bool) (s x v w : List ℕ) → (if b then run is_identifier_byte (s ++ w) else None) ≡ Some (x, v ++ w) → (if b then run is_identifier_byte s else None) ≡ Some (x, v)
    by true s x v w e = (alone-plain is_identifier_byte plain-identifier).alone s x v w tt e
    by false s x v w e = absurd (is_read (x, v ++ w) (sym e))

    at : (s x v w : List ℕ) → identifier (s ++ w) ≡ Some (x, v ++ w) → identifier s ≡ Some (x, v)
    at [] x v w e = absurd (empty w x v (is_letter (first w)) refl e)
    at (a ∷ s) x v w e = by (is_letter a) (a ∷ s) x v w e

lasts-identifier : Lasts identifier
unfolding identifier
lasts-identifier = record { lasts = at }
  where
    by : (b : Bool) (s t : List ℕ) → (if b then run is_identifier_byte t else None) ≡ None → (if b then run is_identifier_byte s else None) ≡ None
    by true s t e = absurd (is_read (take (run_len is_identifier_byte t) t, drop (run_len is_identifier_byte t) t) e)
    by false s t e = refl

    at : (s w : List ℕ) → identifier (s ++ w) ≡ None → identifier s ≡ None
    at [] w e = refl
    at (a ∷ s) w e = by (is_letter a) (a ∷ s) (a ∷ (s ++ w)) e

-- ---- lines and blanks

pub alone-blank_inline : Alone Any blank_inline
unfolding blank_inline
alone-blank_inline = alone-map Any length (run1 is_space) (alone-plain1 is_space plain-space)

pub lasts-blank_inline : Lasts blank_inline
unfolding blank_inline
lasts-blank_inline = lasts-map length (run1 is_space) (lasts-run1 is_space plain-space)

pub alone-spaces : Alone Any (skip blank_inline)
alone-spaces = alone-skip blank_inline alone-blank_inline lasts-blank_inline

alone-line_break : Alone Any line_break
unfolding line_break
alone-line_break = alone-or Any (byte 13 >> byte 10) (byte 10) (alone-then Any (byte 13) _ (alone-byte 13 refl) (λ _. alone-byte 10 refl)) (alone-byte 10 refl) (way-lasts Any (byte 13 >> byte 10) (byte 10) (lasts-next 13 (byte 10) refl (lasts-byte 10 refl)))

lasts-line_break : Lasts line_break
unfolding line_break
lasts-line_break = lasts-or (byte 13 >> byte 10) (byte 10) (lasts-next 13 (byte 10) refl (lasts-byte 10 refl)) (lasts-byte 10 refl)

alone-at_end : Alone Any at_end
alone-at_end = record { alone = λ s x v w here e. at s x v w (end_read (s ++ w) (length (s ++ w) == 0) (x, v ++ w) e); takes = takes-at_end }
  where
    at : (s : List ℕ) (x : Unit {0}) (v w : List ℕ) → ((length (s ++ w) == 0) ≡ true) × (s ++ w ≡ v ++ w) → at_end s ≡ Some (x, v)
    at [] x v w h = ap (λ t. Some (x, t)) (append_cancel_right [] v w h.1)
    at (a ∷ s) x v w h = absurd (grind (arith, nat_tests, h.0))

pub alone-line_end : Alone Any line_end
unfolding line_end
alone-line_end = alone-or Any line_break at_end alone-line_break alone-at_end (way-lasts Any line_break at_end lasts-line_break)

alone-blank_turn : Alone Any blank_turn
unfolding blank_turn
alone-blank_turn = alone-or Any (ignore blank_inline) line_end (alone-map Any (λ _. tt) blank_inline alone-blank_inline) alone-line_end (way-lasts Any (ignore blank_inline) line_end (lasts-ignore blank_inline lasts-blank_inline))

-- no blank is left
abbrev pub Blankless : Seam
Blankless v w = Rests blank_turn v

alone-blank : Alone (λ v w. Any v w × Blankless v w) blank
unfolding blank
alone-blank = alone-then (λ v w. Any v w × Blankless v w) blank_turn _ alone-blank_turn (λ _. alone-map (λ v w. Any v w × Blankless v w) (λ _. tt) (count blank_turn) (alone-many Any one_more blank_turn 0 alone-blank_turn (enters-any blank_turn)))

pub no_blanks : skip blank [] ≡ Some (tt, [])
unfolding blank blank_turn blank_inline line_end line_break run1 byte many_from
no_blanks = refl

none_blank : (s : List ℕ) → blank_turn s ≡ None → skip blank s ≡ Some (tt, s)
unfolding blank
none_blank s e = rw e refl

pub alone-blanks : Alone Blankless (skip blank)
alone-blanks = record { alone = λ s x v w here e. by s x v w here (ignore blank (s ++ w)) refl e; takes = takes-blanks }
  where
    by : (s : List ℕ) (x : Unit {0}) (v w : List ℕ) → Blankless v w → (r : Read (Unit {0})) → ignore blank (s ++ w) ≡ r → otherwise r (pure tt) (s ++ w) ≡ Some (x, v ++ w) → skip blank s ≡ Some (x, v)
    by s x v w here (Some z) e g = ap (λ r. otherwise r (pure tt) s) ((alone-map (λ v w. Any v w × Blankless v w) (λ _. tt) blank alone-blank).alone s x v w (tt, here) (e ∙ g))
    by s x v w (inl none) None e g =
        let z : s ≡ v = append_cancel_right s v w (lefts tt x (s ++ w) (v ++ w) g) in
        ap (skip blank) (z ∙ none) ∙ (no_blanks ∙ ap (λ t. Some (x, t)) (sym none))
    by s x v w (inr none) None e g =
        let z : s ≡ v = append_cancel_right s v w (lefts tt x (s ++ w) (v ++ w) g) in
        ap (skip blank) z ∙ none_blank v none

-- ---- what stands after blanks

-- a byte above the space
abbrev pub over : ℕ → Bool
over c = nat_lt 32 c

pub no_blank : (t : List ℕ) → over (first t) ≡ true → blank_turn t ≡ None
unfolding blank_turn blank_inline line_end line_break run1 byte
no_blank [] e = absurd (true_false (over 0) e refl)
no_blank (c ∷ t) e =
    let a : (c == 32) ≡ false = grind (arith, nat_tests) in
    let b : (c == 13) ≡ false = grind (arith, nat_tests) in
    let d : (c == 10) ≡ false = grind (arith, nat_tests) in
    let f : (length (c ∷ t) == 0) ≡ false = grind (arith, nat_tests) in
    rw (a, b, d, f) refl

blankless : {A : Type 0} (P : ℕ → Bool) (p : Parser A) (t : List ℕ) (z : A × List ℕ) → Starts P p → ((c : ℕ) → P c ≡ true → over c ≡ true) → p t ≡ Some z → Rests blank_turn t
blankless P p t z h f e = inr (no_blank t (f (first t) (h.start t z e)))

-- blanks, and what begins with such a byte
pub alone-after : {B : Type 0} (at : Seam) (P : ℕ → Bool) (p : Parser B) → Starts P p → ((c : ℕ) → P c ≡ true → over c ≡ true) → Alone at p → Alone at (skip blank >> p)
alone-after at P p h f k = alone-bind Blankless at (skip blank) (λ _. p) alone-blanks (λ _. k) (λ a x t v w e g here. blankless P p t (x, v) h f g)

pub is_over : (c : ℕ) → over c ≡ true → (n : ℕ) → is c n ≡ true → over n ≡ true
is_over c e n g = ap over (eqb-true n c g) ∙ e

-- the same, where the first is one byte
pub alone-after_byte : {B : Type 0} (at : Seam) (c : ℕ) (p : Parser B) → (0 == c) ≡ false → (c == c) ≡ true → over c ≡ true → Alone at p → Alone at (skip blank >> (byte c >> p))
alone-after_byte at c p some same o k = alone-after at (is c) (byte c >> p) (starts-bind (is c) (byte c) _ (starts-byte (is c) c some same)) (is_over c o) (alone-then at (byte c) _ (alone-byte c some) (λ _. k))

-- ---- strings

alone-hex_digit : Alone Any hex_digit
unfolding hex_digit
alone-hex_digit = record { alone = λ s x v w here e. at s x v w e; takes = takes-test (λ s. is_ascii_hexdigit (first s)) (λ s. Some (tt, drop 1 s)) (λ s. None) (takes-drop tt 1) takes-nothing }
  where
    empty : (w v : List ℕ) (x : Unit {0}) (b : Bool) → is_ascii_hexdigit (first w) ≡ b → one b (drop 1 w) ≡ Some (x, v ++ w) → ⊥
    empty w v x false g e = is_read (x, v ++ w) (sym e)
    empty [] v x true g e = true_false (is_ascii_hexdigit 0) g refl
    empty (a ∷ w) v x true g e = let d : w ≡ v ++ (a ∷ w) = lefts tt x w (v ++ (a ∷ w)) e in absurd (omega (arith, ap length d, length-append v (a ∷ w)))

    by : (b : Bool) (s v w : List ℕ) (x : Unit {0}) → one b (s ++ w) ≡ Some (x, v ++ w) → one b s ≡ Some (x, v)
    by true s v w x e = (alone-pure Any tt).alone s x v w tt e
    by false s v w x e = absurd (is_read (x, v ++ w) (sym e))

    at : (s : List ℕ) (x : Unit {0}) (v w : List ℕ) → hex_digit (s ++ w) ≡ Some (x, v ++ w) → hex_digit s ≡ Some (x, v)
    at [] x v w e = absurd (empty w v x (is_ascii_hexdigit (first w)) refl e)
    at (a ∷ s) x v w e = by (is_ascii_hexdigit a) s v w x e

alone-hex_digits : (n : ℕ) → Alone Any (hex_digits n)
unfolding hex_digits
alone-hex_digits zero = alone-pure Any tt
alone-hex_digits (suc n) = alone-then Any hex_digit _ alone-hex_digit (λ _. alone-hex_digits n)

starts-c : {A : Type 0} (c : ℕ) (f : Unit {0} → Parser A) → (0 == c) ≡ false → (c == c) ≡ true → Starts (is c) (byte c >>= f)
starts-c c f some same = starts-bind (is c) (byte c) f (starts-byte (is c) c some same)

alone-unicode : Alone Any ((byte 117 >> hex_digits 4) <|> (byte 85 >> hex_digits 6))
alone-unicode =
    alone-or Any (byte 117 >> hex_digits 4) (byte 85 >> hex_digits 6) (alone-then Any (byte 117) _ (alone-byte 117 refl) (λ _. alone-hex_digits 4)) (alone-then Any (byte 85) _ (alone-byte 85 refl) (λ _. alone-hex_digits 6))
    (way-starts Any (is 117) (is 85) (byte 117 >> hex_digits 4) (byte 85 >> hex_digits 6) (starts-c 117 _ refl refl) (starts-c 85 _ refl refl) (λ c e f. absurd (grind (arith, nat_tests))))

alone-escape : Alone Any escape
unfolding escape
alone-escape =
    alone-then Any (byte 92) _ (alone-byte 92 refl) (λ _.
    alone-or Any (byte 92) _ (alone-byte 92 refl) (alone-or Any (byte 34) _ (alone-byte 34 refl) alone-unicode (way-lasts Any (byte 34) _ (lasts-byte 34 refl))) (way-lasts Any (byte 92) _ (lasts-byte 92 refl)))

starts-escape : Starts (is 92) escape
unfolding escape
starts-escape = starts-c 92 _ refl refl

-- a text of a string goes on after it, and a carriage return isn't all of that
abbrev Quoted : Seam
Quoted v w = (0 < length v) × ((v ≡ 13 ∷ []) → ⊥)

easy-quoted : Easy is_quoted
easy-quoted = record { easy = λ a n e. grind (arith, nat_tests) }

still-quoted : (v w : List ℕ) → Quoted v w → Still is_quoted v w
still-quoted v w here a e f =
    elim (cases_Bool (a == 13)) [
      | inl return ↦ absurd (here.1 (e ∙ ap (λ c. c ∷ []) (eqb-true a 13 return)))
      | inr other ↦ grind (arith, nat_tests)
    ]

no_quoted : (s : List ℕ) → (first s == 92) ≡ true → run_len is_quoted s ≡ 0
no_quoted [] e = refl
no_quoted (a ∷ s) e = ap (λ c. run_len is_quoted (c ∷ s)) (eqb-true a 92 e)

alone-quoted_turn : Alone Quoted quoted_turn
unfolding quoted_turn
alone-quoted_turn =
    alone-or Quoted (ignore (run1 is_quoted)) escape (alone-map Quoted (λ _. tt) (run1 is_quoted) (alone-weaker (Still is_quoted) Quoted (run1 is_quoted) still-quoted (alone-run1 is_quoted easy-quoted))) (alone-any Quoted escape alone-escape)
    (λ s x v w here e g. ap (λ r. and_then r (λ _. pure (tt {0}))) (none_run1 is_quoted s (no_quoted s (starts-escape.start s (x, v) g))))

enters-quoted : Enters Quoted quoted_turn
enters-quoted = λ a s v w e g less here. (omega (arith, less), λ z. absurd (omega (arith, ap length z, less, here.0)))

pub alone-string_literal : Alone Any string_literal
unfolding string_literal
alone-string_literal =
    alone-then Any (byte 34) _ (alone-byte 34 refl) (λ _.
    alone-bind (λ v w. Quoted v w × Rests quoted_turn v) Any (source_of (count quoted_turn)) to_quote (alone-source_of (λ v w. Quoted v w × Rests quoted_turn v) (count quoted_turn) (alone-many Quoted one_more quoted_turn 0 alone-quoted_turn enters-quoted))
    (λ t. alone-then Any (byte 34) _ (alone-byte 34 refl) (λ _. alone-pure Any t))
    (λ a x t v w e g here.
    let (q, i, j) = first_read (byte 34 t) (λ _. pure a) (x, v) g in
    let z : t ≡ 34 ∷ q.1 = taken_one 34 refl t q.1 i in
    let n : first t ≡ 34 = ap first z in
    ((omega (arith, ap length z), λ r. absurd (omega (arith, n, ap first r))), inr (no_turn t n))))

-- ---- numbers

pub alone-digits : Alone Any digits
unfolding digits
alone-digits = alone-plain1 is_digit plain-digit

lasts-digits : Lasts digits
unfolding digits
lasts-digits = lasts-run1 is_digit plain-digit

abbrev fraction : Parser (Unit {0})
fraction = skip (byte 46 >> digits)

alone-fraction : Alone Any fraction
alone-fraction = alone-skip (byte 46 >> digits) (alone-then Any (byte 46) _ (alone-byte 46 refl) (λ _. alone-digits)) (lasts-next 46 digits refl lasts-digits)

alone-number_parts : Alone Any number_parts
unfolding number_parts
alone-number_parts = alone-then Any (skip (byte 45)) _ (alone-skip (byte 45) (alone-byte 45 refl) (lasts-byte 45 refl)) (λ _. alone-then Any digits _ alone-digits (λ _. alone-fraction))

lasts-number_parts : Lasts number_parts
unfolding number_parts byte digits run1
lasts-number_parts = record { lasts = at }
  where
    after : Lasts (digits >>= (λ _. fraction))
    after = lasts-total digits (λ _. fraction) lasts-digits (λ _ t e. skip_some (byte 46 >> digits) t e)

    sign : Bool → List ℕ → List ℕ → Read (Unit {0})
    sign true s t = Some (tt, s)
    sign false s t = Some (tt, t)

    by : (b : Bool) (a : ℕ) (s w : List ℕ) → (a == 45) ≡ b → number_parts (a ∷ (s ++ w)) ≡ None → number_parts (a ∷ s) ≡ None
    by true a s w g e = let e2 = rw g at e in rw g (after.lasts s w e2)
    by false a s w g e = let e2 = rw g at e in rw g (after.lasts (a ∷ s) w e2)

    at : (s w : List ℕ) → number_parts (s ++ w) ≡ None → number_parts s ≡ None
    at [] w e = refl
    at (a ∷ s) w e = by (a == 45) a s w refl e

pub alone-number_literal : Alone Any number_literal
unfolding number_literal
alone-number_literal = alone-source_of Any number_parts alone-number_parts

pub lasts-number_literal : Lasts number_literal
unfolding number_literal
lasts-number_literal = record { lasts = λ s w e. ap (taken s) (lasts-number_parts.lasts s w (none (s ++ w) (number_parts (s ++ w)) e)) }
  where
    none : (s : List ℕ) (r : Read (Unit {0})) → taken s r ≡ None → r ≡ None
    none s None e = refl
    none s (Some q) e = absurd (is_read (take (length s - length q.1) s, q.1) e)

starts-string : Starts (is 34) (string <$> string_literal)
unfolding string_literal
starts-string = starts-bind (is 34) string_literal _ (starts-c 34 _ refl refl)

starts-number : Starts may_start_number (number <$> number_literal)
starts-number = starts-bind may_start_number number_literal _ starts-number_literal

pub alone-literal : Alone Any literal
unfolding literal
alone-literal =
    alone-or Any (string <$> string_literal) (number <$> number_literal) (alone-map Any string string_literal alone-string_literal) (alone-map Any number number_literal alone-number_literal)
    (way-starts Any (is 34) may_start_number (string <$> string_literal) (number <$> number_literal) starts-string starts-number (λ c e f. absurd (grind (arith, nat_tests))))

-- ---- references

pub alone-attribute_access : Alone Any attribute_access
unfolding attribute_access
alone-attribute_access =
    alone-or Any (attribute <$> (byte 46 >> identifier)) (pure no_attribute) (alone-map Any attribute (byte 46 >> identifier) (alone-then Any (byte 46) _ (alone-byte 46 refl) (λ _. alone-identifier))) (alone-pure Any no_attribute)
    (way-lasts Any (attribute <$> (byte 46 >> identifier)) (pure no_attribute) (lasts-map attribute (byte 46 >> identifier) (lasts-next 46 identifier refl lasts-identifier)))

pub alone-message_reference : Alone Any message_reference
unfolding message_reference
alone-message_reference = alone-then Any identifier _ alone-identifier (λ id. alone-map Any (λ a. message id a) attribute_access alone-attribute_access)

pub alone-variable_reference : Alone Any variable_reference
unfolding variable_reference
alone-variable_reference = alone-map Any variable (byte 36 >> identifier) (alone-then Any (byte 36) _ (alone-byte 36 refl) (λ _. alone-identifier))

pub alone-braces : (n : ℕ) → Alone Any (level n).braces
alone-braces n = alone-closed (level n).braces (placeable_by_prefix n) (firm nowhere n).braces.takes

pub alone-brackets : (n : ℕ) → Alone Any (level n).brackets
alone-brackets n = alone-closed (level n).brackets (call_by_prefix n) (firm nowhere n).brackets.takes

pub alone-function : (n : ℕ) → Alone Any (function_reference (level n))
unfolding function_reference
alone-function n = alone-then Any identifier _ alone-identifier (λ id. alone-provided Any (is_function_name id) _ (alone-map Any (λ a. function id a) (level n).brackets (alone-brackets n)))

alone-call : (n : ℕ) → Alone Any (optional_call (level n))
unfolding optional_call
alone-call n =
    alone-or Any (call <$> (level n).brackets) (pure no_call) (alone-map Any call (level n).brackets (alone-brackets n)) (alone-pure Any no_call)
    (way-lasts Any (call <$> (level n).brackets) (pure no_call) (lasts-map call (level n).brackets (lasts-closed (level n).brackets (call_by_prefix n))))

pub alone-term_reference : (n : ℕ) → Alone Any (term_reference (level n))
unfolding term_reference
alone-term_reference n = alone-then Any (byte 45) _ (alone-byte 45 refl) (λ _. alone-then Any identifier _ alone-identifier (λ id. alone-then Any attribute_access _ alone-attribute_access (λ a. alone-map Any (λ c. term id a c) (optional_call (level n)) (alone-call n))))
