-- References that stand alone between braces.
use Rattle.std.proofs.Common.{◌≡◌, ◌==◌, ℕ, zero, suc, Bool, true, false, List, [], ◌∷◌, Some, None, refl, ap, arith, inl, inr}
use Rattle.std.proofs.lemmas.Bool.{cases_Bool}
use Rattle.std.proofs.lemmas.Bool.Decides.{nat_tests}
use Rattle.std.specs.Prelude.{is_some}
use Rattle.fluent_text.specs.Parser.{Read, ◌>>=◌, ◌>>◌, and_then, pure, skip, first, byte, run1}
use Rattle.fluent_ast.specs.Tree.{Text, Inline, inline, select, variants_of, message, term, variable, no_attribute, no_call, function}
use Rattle.fluent_text.specs.Lexical.{is_letter, is_digit, identifier, blank}
use Rattle.fluent_syntax.specs.Expressions.{Level, level, digits, number_parts, number_literal, string_literal, literal, attribute_access, message_reference, provided, is_function_name, function_reference, optional_call, term_reference, inline_expression, call_arguments, is_selector, select_expression, arrow, stands_alone, variant_list, expression, inline_placeable, variable_reference}
use Rattle.fluent_syntax.specs.Inside.Bare.{IsBare}
use Rattle.fluent_syntax.proofs.TextRuns.{not_both}

-- ---- what a first byte rules out

pub no_byte : (k : ℕ) (s : List ℕ) → (first s == k) ≡ false → byte k s ≡ None
unfolding byte
no_byte k s e = rw e refl

pub none_some : {A : Type 0} (r : Read A) (p : A × List ℕ) → r ≡ None → r ≡ Some p → ⊥
none_some r p e f = not_both (is_some r) (ap is_some f) (ap is_some e)

byte_is : (k : ℕ) (s r : List ℕ) → byte k s ≡ Some (tt, r) → (first s == k) ≡ true
byte_is k s r e =
    elim (cases_Bool (first s == k)) [
      | inl same ↦ same
      | inr other ↦ absurd (none_some (byte k s) (tt, r) (no_byte k s other) e)
    ]

no_digit : (s : List ℕ) → is_digit (first s) 0 ≡ false → digits s ≡ None
unfolding digits run1
no_digit [] e = refl
no_digit (c ∷ cs) e = rw e refl

pub no_number : (s : List ℕ) → (first s == 45) ≡ false → is_digit (first s) 0 ≡ false → number_literal s ≡ None
unfolding number_literal number_parts
no_number s b d = rw (no_byte 45 s b, no_digit s d) refl

no_negative : (s t : List ℕ) → byte 45 s ≡ Some (tt, t) → is_digit (first t) 0 ≡ false → number_literal s ≡ None
unfolding number_literal number_parts
no_negative s t b d = rw (b, no_digit t d) refl

pub no_literal : (s : List ℕ) → (first s == 34) ≡ false → number_literal s ≡ None → literal s ≡ None
unfolding literal string_literal
no_literal s q n = rw (no_byte 34 s q, n) refl

no_name : (s : List ℕ) → is_letter (first s) ≡ false → identifier s ≡ None
unfolding identifier
no_name s e = rw e refl

pub name_letter : (s r : List ℕ) (id : Text) → identifier s ≡ Some (id, r) → is_letter (first s) ≡ true
name_letter s r id e =
    elim (cases_Bool (is_letter (first s))) [
      | inl letter ↦ letter
      | inr other ↦ absurd (none_some (identifier s) (id, r) (no_name s other) e)
    ]

pub no_function : (g : Level) (s : List ℕ) → identifier s ≡ None → function_reference g s ≡ None
unfolding function_reference
no_function g s e = rw e refl

pub no_message : (s : List ℕ) → identifier s ≡ None → message_reference s ≡ None
unfolding message_reference
no_message s e = rw e refl

no_term : (g : Level) (s : List ℕ) → (first s == 45) ≡ false → term_reference g s ≡ None
unfolding term_reference
no_term g s e = rw (no_byte 45 s e) refl

-- a name without arguments
function_none : (g : Level) (s r : List ℕ) (id : Text) → identifier s ≡ Some (id, r) → g.brackets r ≡ None → function_reference g s ≡ None
unfolding function_reference
function_none g s r id e b = rw e (tested (is_function_name id))
  where
    tested : (v : Bool) → (provided v >> (g.brackets >>= (λ a. pure (function id a)))) r ≡ None
    tested true = rw b refl
    tested false = refl

no_access : (r : List ℕ) → (first r == 46) ≡ false → attribute_access r ≡ Some (no_attribute, r)
unfolding attribute_access
no_access r e = rw (no_byte 46 r e) refl

-- ---- the three references

variable_at : (g : Level) (s t r : List ℕ) (id : Text) → literal s ≡ None → function_reference g s ≡ None → message_reference s ≡ None → term_reference g s ≡ None → byte 36 s ≡ Some (tt, t) → identifier t ≡ Some (id, r) → inline_expression g s ≡ Some (variable id, r)
unfolding inline_expression variable_reference
variable_at g s t r id l f m n b e = rw (l, f, m, n, b, e) refl

message_at : (g : Level) (s r : List ℕ) (id : Text) → literal s ≡ None → function_reference g s ≡ None → identifier s ≡ Some (id, r) → attribute_access r ≡ Some (no_attribute, r) → inline_expression g s ≡ Some (message id no_attribute, r)
unfolding inline_expression message_reference
message_at g s r id l f e a = rw (l, f, e, a) refl

term_at : (g : Level) (s t r : List ℕ) (id : Text) → literal s ≡ None → function_reference g s ≡ None → message_reference s ≡ None → byte 45 s ≡ Some (tt, t) → identifier t ≡ Some (id, r) → attribute_access r ≡ Some (no_attribute, r) → g.brackets r ≡ None → inline_expression g s ≡ Some (term id no_attribute no_call, r)
unfolding inline_expression term_reference optional_call
term_at g s t r id l f m b e a c = rw (l, f, m, b, e, a, c) refl

pub letter_else : (c : ℕ) → is_letter c ≡ true → ((c == 34) ≡ false) × ((c == 45) ≡ false) × (is_digit c 0 ≡ false)
letter_else c e = (grind (arith, nat_tests), grind (arith, nat_tests), grind (arith, nat_tests))

sigil_else : (c : ℕ) → (c == 36) ≡ true → ((c == 34) ≡ false) × ((c == 45) ≡ false) × (is_digit c 0 ≡ false) × (is_letter c ≡ false)
sigil_else c e = (grind (arith, nat_tests), grind (arith, nat_tests), grind (arith, nat_tests), grind (arith, nat_tests))

dash_else : (c : ℕ) → (c == 45) ≡ true → ((c == 34) ≡ false) × (is_letter c ≡ false)
dash_else c e = (grind (arith, nat_tests), grind (arith, nat_tests))

pub bare_variable : (s t r : List ℕ) (id : Text) → byte 36 s ≡ Some (tt, t) → identifier t ≡ Some (id, r) → IsBare s (variable id) r
bare_variable s t r id b e =
    let other = sigil_else (first s) (byte_is 36 s t b) in
    let none = no_name s other.3 in
    record {
      reads = λ g c. variable_at g s t r id (no_literal s other.0 (no_number s other.1 other.2)) (no_function g s none) (no_message s none) (no_term g s other.1) b e;
      stands = refl;
    }

pub bare_message : (s r : List ℕ) (id : Text) → identifier s ≡ Some (id, r) → (first r == 46) ≡ false → IsBare s (message id no_attribute) r
bare_message s r id e d =
    let other = letter_else (first s) (name_letter s r id e) in
    record {
      reads = λ g c. message_at g s r id (no_literal s other.0 (no_number s other.1 other.2)) (function_none g s r id e c) e (no_access r d);
      stands = refl;
    }

pub bare_term : (s t r : List ℕ) (id : Text) → byte 45 s ≡ Some (tt, t) → identifier t ≡ Some (id, r) → (first r == 46) ≡ false → IsBare s (term id no_attribute no_call) r
bare_term s t r id b e d =
    let other = dash_else (first s) (byte_is 45 s t b) in
    let none = no_name s other.1 in
    let after = letter_else (first t) (name_letter t r id e) in
    record {
      reads = λ g c. term_at g s t r id (no_literal s other.0 (no_negative s t b after.2)) (no_function g s none) (no_message s none) b e (no_access r d) c;
      stands = refl;
    }

no_variable : (s : List ℕ) → (first s == 36) ≡ false → variable_reference s ≡ None
unfolding variable_reference
no_variable s e = rw (no_byte 36 s e) refl

last_choice : (g : Level) (s r : List ℕ) (x : Inline) → literal s ≡ None → function_reference g s ≡ None → message_reference s ≡ None → term_reference g s ≡ None → variable_reference s ≡ Some (x, r) → inline_expression g s ≡ Some (x, r)
unfolding inline_expression
last_choice g s r x l f m n e = rw (l, f, m, n, e) refl

-- nothing else begins as a variable does
pub variable_first : (g : Level) (s r : List ℕ) (x : Inline) → variable_reference s ≡ Some (x, r) → inline_expression g s ≡ Some (x, r)
variable_first g s r x e =
    elim (cases_Bool (first s == 36)) [
      | inl sigil ↦
          let other = sigil_else (first s) sigil in
          let none = no_name s other.3 in
          last_choice g s r x (no_literal s other.0 (no_number s other.1 other.2)) (no_function g s none) (no_message s none) (no_term g s other.1) e
      | inr another ↦ absurd (none_some (variable_reference s) (x, r) (no_variable s another) e)
    ]

-- ---- between braces

pub no_brackets : (n : ℕ) (r c : List ℕ) → skip blank r ≡ Some (tt, c) → byte 40 c ≡ None → (level n).brackets r ≡ None
unfolding level call_arguments
no_brackets zero r c e b = refl
no_brackets (suc n) r c e b = rw (e, b) refl

no_arrow : (r c : List ℕ) → skip blank r ≡ Some (tt, c) → byte 45 c ≡ None → arrow r ≡ None
unfolding arrow
no_arrow r c e b = rw (e, b) refl

no_select : (n : ℕ) (s r : List ℕ) (x : Inline) → inline_expression (level n) s ≡ Some (x, r) → arrow r ≡ None → select_expression (level n) s ≡ None
no_select n s r x e b = rw e (tested (is_selector x))
  where
    tested : (v : Bool) → and_then (and_then (provided v r) (λ _. pure x)) (λ x. arrow >> (variant_list (level n) >>= (λ vs. pure (select x (variants_of vs))))) ≡ None
    tested true = rw b refl
    tested false = refl

alone_at : (n : ℕ) (s r : List ℕ) (x : Inline) → inline_expression (level n) s ≡ Some (x, r) → stands_alone x ≡ true → arrow r ≡ None → expression (level n) s ≡ Some (inline x, r)
unfolding expression
alone_at n s r x e a b = rw (no_select n s r x e b, e, a) refl

closing : (c : ℕ) → (c == 125) ≡ true → ((c == 40) ≡ false) × ((c == 45) ≡ false)
closing c e = (grind (arith, nat_tests), grind (arith, nat_tests))

pub placeable_at : (n : ℕ) (s o t r c rest : List ℕ) (x : Inline) → byte 123 s ≡ Some (tt, o) → skip blank o ≡ Some (tt, t) → IsBare t x r → skip blank r ≡ Some (tt, c) → byte 125 c ≡ Some (tt, rest) → (level (suc n)).braces s ≡ Some (inline x, rest)
unfolding level inline_placeable
placeable_at n s o t r c rest x b e bare f d =
    let other = closing (first c) (byte_is 125 c rest d) in
    let read = bare.reads (level n) (no_brackets n r c f (no_byte 40 c other.0)) in
    rw (b, e, alone_at n t r x read bare.stands (no_arrow r c f (no_byte 45 c other.1)), f, d) refl
