-- The rules that hold no other are read by their prefix and the two bytes after it.
use Rattle.std.proofs.Common.{◌≡◌, ◌==◌, ◌-◌, length, ℕ, List, [], ◌∷◌, take, drop, true, false, Bool, Option, Some, None, refl, sym, ap, ◌∙◌, if◌then◌else◌, arith, eqb-true}
use Rattle.std.proofs.lemmas.Bool.Decides.{nat_tests}
use Rattle.std.specs.Char.{is_ascii_digit}
use Rattle.std.specs.Prelude.{◌||◌}
use Rattle.fluent_ast.specs.Tree.{variable, no_attribute, attribute, message, name_key, number_key}
use Rattle.fluent_text.specs.Parser.{Read, Parser, ◌>>=◌, ◌>>◌, ◌<$>◌, and_then, otherwise, pure, ignore, skip, count, one_more, first, byte, run_len, run, run1}
use Rattle.fluent_text.specs.Lexical.{is_letter, is_space, is_digit, is_inside, is_text, is_quoted, is_identifier_byte, identifier, blank_inline, at_end, line_break, line_end, blank_turn, blank}
use Rattle.fluent_syntax.specs.Expressions.{source_of, digits, number_parts, number_literal, attribute_access, message_reference, key_inside, variant_key, star, variant_head, taken, variable_reference}
use Rattle.fluent_syntax.specs.Pieces.{follows, words_after}
use Rattle.fluent_syntax.specs.Entries.{name_of_value}
use Rattle.fluent_syntax.specs.Chunks.{may_begin_entry, rest_of_line, comment_line, junk_line, junk}
use Rattle.fluent_grammar_laws.proofs.ChunkLaws.{IsRead, read-many, read-then, read-otherwise}
use Rattle.fluent_grammar_laws.proofs.Near.{closes, Heedless, Alike2, one_seen, two_seen, end_seen, Near, Shuts, Sees, near-bind, near-pure, near-then, near-map, near-or, near-ignore, near-skip, near-if, near-unless, near-run, near-run1, near-byte, near-count, near-source_of, shuts-map, shuts-ignore, shuts-or, shuts-if, shuts-run1, shuts-byte, sees_first, is_read, after_one}

-- ---- runs that look at no byte after a closing bracket

no_return : (a : ℕ) → closes a ≡ true → (a == 13) ≡ false
unfolding closes
no_return a e = grind (arith, nat_tests)

pub heedless-identifier : Heedless is_identifier_byte
heedless-identifier = record { heedless = λ a m n e. refl }

pub heedless-space : Heedless is_space
heedless-space = record { heedless = λ a m n e. refl }

heedless-digit : Heedless is_digit
heedless-digit = record { heedless = λ a m n e. refl }

heedless-inside : Heedless is_inside
heedless-inside = record { heedless = λ a m n e. refl }

pub heedless-text : Heedless is_text
heedless-text = record { heedless = λ a m n e. rw (no_return a e) refl }

pub heedless-quoted : Heedless is_quoted
heedless-quoted = record { heedless = λ a m n e. rw (no_return a e) refl }

-- ---- where rules don't read

nothing_none : {A : Type 0} (r : Read A) → IsRead r → r ≡ None → ⊥
nothing_none None h e = h
nothing_none (Some p) h e = is_read p e

pub first_none : {A B : Type 0} (r : Read A) (f : A → Parser B) → ((a : A) (t : List ℕ) → IsRead (f a t)) → and_then r f ≡ None → r ≡ None
first_none None f h e = refl
first_none (Some p) f h e = absurd (nothing_none (f p.0 p.1) (h p.0 p.1) e)

-- where what follows always reads
pub shuts-then : {A B : Type 0} (p : Parser A) (q : Parser B) → Shuts p → ((t : List ℕ) → IsRead (q t)) → Shuts (p >> q)
shuts-then p q h k = record { shut = λ s t same e. ap (λ z. and_then z (λ _. q)) (h.shut s t same (first_none (p s) (λ _. q) (λ _ x. k x) e)) }

pub shuts-bind : {A B : Type 0} (p : Parser A) (f : A → Parser B) → Shuts p → ((a : A) (t : List ℕ) → IsRead (f a t)) → Shuts (p >>= f)
shuts-bind p f h k = record { shut = λ s t same e. ap (λ z. and_then z f) (h.shut s t same (first_none (p s) f k e)) }

-- where it doesn't read, the first byte says so
pub record ShutsFirst {A : Type 0} (p : Parser A) : Type 0 where
  pub shut_first : (s t : List ℕ) → first s ≡ first t → p s ≡ None → p t ≡ None

shuts-next : {A : Type 0} (c : ℕ) (q : Parser A) → closes c ≡ false → ShutsFirst q → Shuts (byte c >> q)
unfolding byte
shuts-next {A = A} c q clear h = record { shut = λ s t same e. by (first s == c) s t same refl e }
  where
    by : (w : Bool) (s t : List ℕ) → Alike2 s t → (first s == c) ≡ w → and_then (if w then after_one s else None) (λ _. q) ≡ None → and_then (if first t == c then after_one t else None) (λ _. q) ≡ None
    by true s t same e n =
        ap (λ w. and_then (if w then after_one t else None) (λ _. q)) (ap (λ x. x == c) (sym (one_seen s t same)) ∙ e)
        ∙ h.shut_first (drop 1 s) (drop 1 t) (two_seen s t (ap closes (eqb-true (first s) c e) ∙ clear) same) n
    by false s t same e n = ap (λ w. and_then (if w then after_one t else None) (λ _. q)) (ap (λ x. x == c) (sym (one_seen s t same)) ∙ e)

-- ---- lines and blanks

pub near-identifier : Near identifier
unfolding identifier
near-identifier = near-if (λ s. is_letter (first s)) (run is_identifier_byte) (sees_first is_letter) (near-run is_identifier_byte heedless-identifier)

shuts-run : (c : ℕ → ℕ → Bool) → Shuts (run c)
shuts-run c = record { shut = λ s t same e. absurd (nothing_none (run c s) tt e) }

pub shuts-identifier : Shuts identifier
unfolding identifier
shuts-identifier = shuts-if (λ s. is_letter (first s)) (run is_identifier_byte) (sees_first is_letter) (shuts-run is_identifier_byte)

pub near-blank_inline : Near blank_inline
unfolding blank_inline
near-blank_inline = near-map length (run1 is_space) (near-run1 is_space heedless-space)

pub shuts-blank_inline : Shuts blank_inline
unfolding blank_inline
shuts-blank_inline = shuts-map length (run1 is_space) (shuts-run1 is_space heedless-space)

first-byte : (c : ℕ) → ShutsFirst (byte c)
unfolding byte
first-byte c = record { shut_first = λ s t same e. by (first s == c) s t same refl e }
  where
    by : (w : Bool) (s t : List ℕ) → first s ≡ first t → (first s == c) ≡ w → (if w then after_one s else None) ≡ None → (if first t == c then after_one t else None) ≡ None
    by true s t same e n = absurd (is_read (tt, drop 1 s) n)
    by false s t same e n = ap (λ w. if w then after_one t else None) (ap (λ x. x == c) (sym same) ∙ e)

shuts-pair : Shuts (byte 13 >> byte 10)
unfolding closes
shuts-pair = shuts-next 13 (byte 10) refl (first-byte 10)

pub near-pair : Near (byte 13 >> byte 10)
near-pair = near-then (byte 13) (byte 10) (near-byte 13 refl) (near-byte 10 refl)

pub near-line_break : Near line_break
unfolding line_break
near-line_break = near-or (byte 13 >> byte 10) (byte 10) near-pair shuts-pair (near-byte 10 refl)

shuts-line_break : Shuts line_break
unfolding line_break
shuts-line_break = shuts-or (byte 13 >> byte 10) (byte 10) shuts-pair (shuts-byte 10)

sees_length : (b : Bool → ℕ → Bool) → Sees (λ s. b (length s == 0) (first s))
sees_length b = record { sees = at }
  where
    at : (s t : List ℕ) → Alike2 s t → b (length s == 0) (first s) ≡ b (length t == 0) (first t)
    at [] t same = ap (λ x. b (length x == 0) (first x)) (sym (end_seen t (sym same)))
    at (x ∷ s) [] same = ap (λ x. b (length x == 0) (first x)) (end_seen (x ∷ s) same)
    at (x ∷ s) (y ∷ t) same =
        let a : (length (x ∷ s) == 0) ≡ false = grind (arith, nat_tests) in
        let c : (length (y ∷ t) == 0) ≡ false = grind (arith, nat_tests) in
        rw (a, c) (ap (b false) (one_seen (x ∷ s) (y ∷ t) same))

pub near-at_end : Near at_end
near-at_end = near-if (λ s. length s == 0) (pure tt) (sees_length (λ w c. w)) (near-pure tt)

shuts-pure : {A : Type 0} (x : A) → Shuts (pure x)
shuts-pure x = record { shut = λ s t same e. absurd (is_read (x, s) e) }

shuts-at_end : Shuts at_end
shuts-at_end = shuts-if (λ s. length s == 0) (pure tt) (sees_length (λ w c. w)) (shuts-pure tt)

pub near-line_end : Near line_end
unfolding line_end
near-line_end = near-or line_break at_end near-line_break shuts-line_break near-at_end

pub shuts-line_end : Shuts line_end
unfolding line_end
shuts-line_end = shuts-or line_break at_end shuts-line_break shuts-at_end

pub near-blank_turn : Near blank_turn
unfolding blank_turn
near-blank_turn = near-or (ignore blank_inline) line_end (near-ignore blank_inline near-blank_inline) (shuts-ignore blank_inline shuts-blank_inline) near-line_end

shuts-blank_turn : Shuts blank_turn
unfolding blank_turn
shuts-blank_turn = shuts-or (ignore blank_inline) line_end (shuts-ignore blank_inline shuts-blank_inline) shuts-line_end

pub near-blank : Near blank
unfolding blank
near-blank = near-then blank_turn (ignore (count blank_turn)) near-blank_turn (near-ignore (count blank_turn) (near-count blank_turn near-blank_turn shuts-blank_turn))

count-reads : {A : Type 0} (p : Parser A) (t : List ℕ) → IsRead (ignore (count p) t)
count-reads p t = read-then (count p t) (λ _. pure (tt {0})) (read-many one_more p (length t) 0 t) (λ _ u. tt)

shuts-blank : Shuts blank
unfolding blank
shuts-blank = shuts-then blank_turn (ignore (count blank_turn)) shuts-blank_turn (count-reads blank_turn)

pub near-blanks : Near (skip blank)
near-blanks = near-skip blank near-blank shuts-blank

pub near-spaces : Near (skip blank_inline)
near-spaces = near-skip blank_inline near-blank_inline shuts-blank_inline

-- ---- names and references

pub near-variable_reference : Near variable_reference
unfolding variable_reference
near-variable_reference = near-map variable (byte 36 >> identifier) (near-then (byte 36) identifier (near-byte 36 refl) near-identifier)

first-identifier : ShutsFirst identifier
unfolding identifier
first-identifier = record { shut_first = λ s t same e. by (is_letter (first s)) s t same refl e }
  where
    by : (w : Bool) (s t : List ℕ) → first s ≡ first t → is_letter (first s) ≡ w → (if w then run is_identifier_byte s else None) ≡ None → (if is_letter (first t) then run is_identifier_byte t else None) ≡ None
    by true s t same e n = absurd (nothing_none (run is_identifier_byte s) tt n)
    by false s t same e n = ap (λ w. if w then run is_identifier_byte t else None) (ap is_letter (sym same) ∙ e)

pub near-attribute_access : Near attribute_access
unfolding attribute_access closes
near-attribute_access = near-or (attribute <$> (byte 46 >> identifier)) (pure no_attribute)
    (near-map attribute (byte 46 >> identifier) (near-then (byte 46) identifier (near-byte 46 refl) near-identifier))
    (shuts-map attribute (byte 46 >> identifier) (shuts-next 46 identifier refl first-identifier)) (near-pure no_attribute)

pub near-message_reference : Near message_reference
unfolding message_reference
near-message_reference = near-bind identifier _ near-identifier (λ id. near-bind attribute_access _ near-attribute_access (λ a. near-pure (message id a)))

pub near-name_of_value : Near name_of_value
unfolding name_of_value
near-name_of_value = near-bind identifier _ near-identifier (λ id. near-then (skip blank_inline) _ near-spaces (near-then (byte 61) _ (near-byte 61 refl) (near-then (skip blank_inline) (pure id) near-spaces (near-pure id))))

-- ---- texts of lines

pub near-follows : (c : ℕ) → Near (λ s. Some (follows c s, s))
near-follows c = record { near = λ s. ([], refl, λ o same. ap (λ x. Some (x == c, o)) (one_seen o s same)) }

pub near-words_after : (n : Option ℕ) → Near (words_after n)
unfolding words_after
near-words_after n = near-bind (run1 is_text) _ (near-run1 is_text heedless-text) (λ u. near-bind (λ s. Some (follows 10 s, s)) _ (near-follows 10) (λ fed. near-pure (record { indent = n; bytes = u; fed = fed })))

-- ---- comments and Junk

pub near-rest_of_line : Near rest_of_line
unfolding rest_of_line
near-rest_of_line = near-then (run is_inside) (skip (byte 10)) (near-run is_inside heedless-inside) (near-skip (byte 10) (near-byte 10 refl) (shuts-byte 10))

pub near-comment_line : Near comment_line
unfolding comment_line
near-comment_line = near-then (byte 35) rest_of_line (near-byte 35 refl) near-rest_of_line

junk_ends : Bool → ℕ → Bool
junk_ends w c = w || may_begin_entry c

pub near-junk_line : Near junk_line
unfolding junk_line junk_ends
near-junk_line = near-unless (λ s. junk_ends (length s == 0) (first s)) rest_of_line (sees_length junk_ends) near-rest_of_line

read-skip : {A : Type 0} (p : Parser A) (s : List ℕ) → IsRead (skip p s)
read-skip p s = read-otherwise (ignore p s) (pure tt) s tt

read-rest_of_line : (s : List ℕ) → IsRead (rest_of_line s)
unfolding rest_of_line
read-rest_of_line s = read-then (run is_inside s) (λ _. skip (byte 10)) tt (λ _ t. read-skip (byte 10) t)

shuts-unless : {A : Type 0} (b : List ℕ → Bool) (p : Parser A) → Sees b → ((s : List ℕ) → IsRead (p s)) → Shuts (λ s. if b s then None else p s)
shuts-unless b p v h = record { shut = λ s t same e. by (b s) s t same refl e }
  where
    by : (w : Bool) (s t : List ℕ) → Alike2 s t → b s ≡ w → (if w then None else p s) ≡ None → (if b t then None else p t) ≡ None
    by true s t same e n = ap (λ w. if w then None else p t) (sym (v.sees s t same) ∙ e)
    by false s t same e n = absurd (nothing_none (p s) (h s) n)

shuts-junk_line : Shuts junk_line
unfolding junk_line junk_ends
shuts-junk_line = shuts-unless (λ s. junk_ends (length s == 0) (first s)) rest_of_line (sees_length junk_ends) read-rest_of_line

pub near-junk : Near junk
unfolding junk
near-junk = near-then rest_of_line (ignore (count junk_line)) near-rest_of_line (near-ignore (count junk_line) (near-count junk_line near-junk_line shuts-junk_line))

-- ---- numbers

near-digits : Near digits
unfolding digits
near-digits = near-run1 is_digit heedless-digit

no_digits : (s : List ℕ) → digits s ≡ None → is_ascii_digit (first s) ≡ false
unfolding digits run1
no_digits [] e = refl
no_digits (a ∷ s) e = by (is_ascii_digit a) refl
  where
    by : (w : Bool) → is_ascii_digit a ≡ w → is_ascii_digit a ≡ false
    by false g = g
    by true g =
        let k : (run_len is_digit (a ∷ s) == 0) ≡ false = rw g (grind (arith, nat_tests)) in
        absurd (is_read (take (run_len is_digit (a ∷ s)) (a ∷ s), drop (run_len is_digit (a ∷ s)) (a ∷ s)) (ap (λ w. if w then None else run is_digit (a ∷ s)) (sym k) ∙ e))

pub none_digits : (s : List ℕ) → is_ascii_digit (first s) ≡ false → digits s ≡ None
unfolding digits run1
none_digits [] e = refl
none_digits (a ∷ s) e = rw e refl

first-digits : ShutsFirst digits
first-digits = record { shut_first = λ s t same e. none_digits t (ap is_ascii_digit (sym same) ∙ no_digits s e) }

pub near-number_parts : Near number_parts
unfolding number_parts closes
near-number_parts = near-then (skip (byte 45)) _ (near-skip (byte 45) (near-byte 45 refl) (shuts-byte 45)) (near-then digits _ near-digits
    (near-skip (byte 46 >> digits) (near-then (byte 46) digits (near-byte 46 refl) near-digits) (shuts-next 46 digits refl first-digits)))

pub near-number_literal : Near number_literal
unfolding number_literal
near-number_literal = near-source_of number_parts near-number_parts

-- ---- keys and what stands between arguments

shuts-second : {A B : Type 0} (c : ℕ) (p : Parser A) (f : A → Parser B) → closes c ≡ false → ShutsFirst p → ((a : A) (t : List ℕ) → IsRead (f a t)) → Shuts (skip (byte c) >> (p >>= f))
unfolding byte
shuts-second {A = A} {B = B} c p f clear h k = record { shut = λ s t same e. by (first s == c) s t same refl e }
  where
    skipped : Bool → List ℕ → Read (Unit {0})
    skipped w s = otherwise (and_then (if w then after_one s else None) (λ _. pure (tt {0}))) (pure (tt {0})) s

    by : (w : Bool) (s t : List ℕ) → Alike2 s t → (first s == c) ≡ w → and_then (skipped w s) (λ _. p >>= f) ≡ None → and_then (skipped (first t == c) t) (λ _. p >>= f) ≡ None
    by true s t same e n =
        ap (λ w. and_then (skipped w t) (λ _. p >>= f)) (ap (λ x. x == c) (sym (one_seen s t same)) ∙ e)
        ∙ ap (λ z. and_then z f) (h.shut_first (drop 1 s) (drop 1 t) (two_seen s t (ap closes (eqb-true (first s) c e) ∙ clear) same) (first_none (p (drop 1 s)) f k n))
    by false s t same e n =
        ap (λ w. and_then (skipped w t) (λ _. p >>= f)) (ap (λ x. x == c) (sym (one_seen s t same)) ∙ e)
        ∙ ap (λ z. and_then z f) (h.shut_first s t (one_seen s t same) (first_none (p s) f k n))

shuts-number_parts : Shuts number_parts
unfolding number_parts closes
shuts-number_parts = shuts-second 45 digits (λ _. skip (byte 46 >> digits)) refl first-digits (λ _ t. read-skip (byte 46 >> digits) t)

shuts-source_of : {A : Type 0} (p : Parser A) → Shuts p → Shuts (source_of p)
shuts-source_of {A = A} p h = record { shut = λ s t same e. ap (taken t) (h.shut s t same (by s (p s) e)) }
  where
    by : (s : List ℕ) (r : Read A) → taken s r ≡ None → r ≡ None
    by s None e = refl
    by s (Some q) e = absurd (is_read (take (length s - length q.1) s, q.1) e)

pub shuts-number_literal : Shuts number_literal
unfolding number_literal
shuts-number_literal = shuts-source_of number_parts shuts-number_parts

near-key_inside : Near key_inside
unfolding key_inside
near-key_inside = near-or (number_key <$> number_literal) (name_key <$> identifier) (near-map number_key number_literal near-number_literal) (shuts-map number_key number_literal shuts-number_literal) (near-map name_key identifier near-identifier)

pub near-variant_key : Near variant_key
unfolding variant_key
near-variant_key = near-then (byte 91) _ (near-byte 91 refl) (near-then (skip blank) _ near-blanks (near-bind key_inside _ near-key_inside (λ k. near-then (skip blank) _ near-blanks (near-then (byte 93) (pure k) (near-byte 93 refl) (near-pure k)))))

near-star : (default : Bool) → Near (star default)
near-star true = near-byte 42 refl
near-star false = near-pure tt

pub near-variant_head : (default : Bool) → Near (variant_head default)
unfolding variant_head
near-variant_head default =
    near-then line_end _ near-line_end (near-then (skip blank) _ near-blanks (near-then (star default) _ (near-star default) (near-bind variant_key _ near-variant_key
    (λ k. near-then (skip blank_inline) (pure k) near-spaces (near-pure k)))))
