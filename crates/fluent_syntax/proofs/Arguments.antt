-- What an expression or an argument is, by whether it begins with a name and what follows that.
use Rattle.std.proofs.Common.{◌≡◌, ◌==◌, ◌<◌, ◌∙◌, ℕ, Bool, true, false, List, Some, None, refl, sym, arith}
use Rattle.std.proofs.lemmas.Bool.Decides.{nat_tests}
use Rattle.fluent_text.specs.Parser.{Text, Read, ◌<$>◌, ◌<|>◌, ◌>>◌, and_then, otherwise, pure, skip, first, byte}
use Rattle.fluent_text.specs.Lexical.{identifier, blank}
use Rattle.fluent_ast.specs.Tree.{Attribute, attribute, no_attribute, name_key, number_key, Inline, Arguments, function, message, nested}
use Rattle.fluent_syntax.specs.Expressions.{Level, level, Argument, positional, by_name, number_literal, literal, key_inside, attribute_access, message_reference, is_function_name, function_reference, term_reference, variable_reference, inline_expression, named_argument, argument}
use Rattle.fluent_syntax.specs.Inside.Gathering.{positional_argument, value_argument, message_argument, reference_argument}
use Rattle.fluent_syntax.proofs.Spaces.{no_spaces}
use Rattle.fluent_syntax.proofs.BareReferences.{no_byte, no_brackets, bare_message, no_number, no_literal, name_letter, letter_else, no_function, no_message, variable_first}
use Rattle.fluent_syntax.specs.Inside.Parts.{message_to, reference_to, nameless}

-- a name is no literal
name_no_literal : (s r : List ℕ) (id : Text) → identifier s ≡ Some (id, r) → literal s ≡ None
name_no_literal s r id e =
    let other = letter_else (first s) (name_letter s r id e) in
    no_literal s other.0 (no_number s other.1 other.2)

-- an attribute or none
access_some : (r : List ℕ) → (p : Attribute × List ℕ) × (attribute_access r ≡ Some p)
unfolding attribute_access
access_some r = read ((attribute <$> (byte 46 >> identifier)) r)
  where
    read : (x : Read Attribute) → (p : Attribute × List ℕ) × (otherwise x (pure no_attribute) r ≡ Some p)
    read None = ((no_attribute, r), refl)
    read (Some p) = (p, refl)

calls : (g : Level) (s r : List ℕ) (id : Text) (b : Read Arguments) → identifier s ≡ Some (id, r) → is_function_name id ≡ true → g.brackets r ≡ b → function_reference g s ≡ and_then b (λ a. pure (function id a))
unfolding function_reference
calls g s r id b e f h = rw (e, f, h) refl

no_call : (g : Level) (s r : List ℕ) (id : Text) → identifier s ≡ Some (id, r) → is_function_name id ≡ false → function_reference g s ≡ None
unfolding function_reference
no_call g s r id e f = rw (e, f) refl

refers : (s r : List ℕ) (id : Text) (p : Attribute × List ℕ) → identifier s ≡ Some (id, r) → attribute_access r ≡ Some p → message_reference s ≡ Some (message id p.0, p.1)
unfolding message_reference
refers s r id p e a = rw (e, a) refl

a_call : (g : Level) (s : List ℕ) (p : Inline × List ℕ) → literal s ≡ None → function_reference g s ≡ Some p → inline_expression g s ≡ Some p
unfolding inline_expression
a_call g s p l f = rw (l, f) refl

a_message : (g : Level) (s : List ℕ) (p : Inline × List ℕ) → literal s ≡ None → function_reference g s ≡ None → message_reference s ≡ Some p → inline_expression g s ≡ Some p
unfolding inline_expression
a_message g s p l f m = rw (l, f, m) refl

message_at : (g : Level) (s r : List ℕ) (id : Text) → identifier s ≡ Some (id, r) → function_reference g s ≡ None → positional_argument g s ≡ message_argument id r
message_at g s r id e f =
    let a = access_some r in
    rw (a_message g s (message id a.0.0, a.0.1) (name_no_literal s r id e) f (refers s r id a.0 e a.1), a.1) refl

reference_by : (g : Level) (s r : List ℕ) (id : Text) (v : Bool) (b : Read Arguments) → identifier s ≡ Some (id, r) → is_function_name id ≡ v → g.brackets r ≡ b → positional_argument g s ≡ reference_argument g id r
reference_by g s r id false b e f h = rw (f, message_at g s r id e (no_call g s r id e f)) refl
reference_by g s r id true None e f h = rw (f, h, message_at g s r id e (calls g s r id None e f h)) refl
reference_by g s r id true (Some p) e f h = rw (f, h, a_call g s (function id p.0, p.1) (name_no_literal s r id e) (calls g s r id (Some p) e f h)) refl

-- a name is a function's before its arguments, else a message's
pub reference_at : (g : Level) (s r : List ℕ) (id : Text) → identifier s ≡ Some (id, r) → positional_argument g s ≡ reference_argument g id r
reference_at g s r id e = reference_by g s r id (is_function_name id) (g.brackets r) e refl refl

-- a name is a key, and no number
name_no_number : (s r : List ℕ) (id : Text) → identifier s ≡ Some (id, r) → number_literal s ≡ None
name_no_number s r id e =
    let other = letter_else (first s) (name_letter s r id e) in
    no_number s other.1 other.2

pub key_name : (s r : List ℕ) (id : Text) → identifier s ≡ Some (id, r) → key_inside s ≡ Some (name_key id, r)
unfolding key_inside
key_name s r id e = rw (name_no_number s r id e, e) refl

pub key_number : (s r : List ℕ) (n : Text) → number_literal s ≡ Some (n, r) → key_inside s ≡ Some (number_key n, r)
unfolding key_inside
key_number s r n e = rw e refl

pub no_key : (s : List ℕ) → identifier s ≡ None → number_literal s ≡ None → key_inside s ≡ None
unfolding key_inside
no_key s e n = rw (n, e) refl

-- the same of an expression
inline_message : (g : Level) (s r : List ℕ) (id : Text) → identifier s ≡ Some (id, r) → function_reference g s ≡ None → inline_expression g s ≡ message_to id r
inline_message g s r id e f =
    let a = access_some r in
    rw (a_message g s (message id a.0.0, a.0.1) (name_no_literal s r id e) f (refers s r id a.0 e a.1), a.1) refl

inline_by : (g : Level) (s r : List ℕ) (id : Text) (v : Bool) (b : Read Arguments) → identifier s ≡ Some (id, r) → is_function_name id ≡ v → g.brackets r ≡ b → inline_expression g s ≡ reference_to g id r
inline_by g s r id false b e f h = rw (f, inline_message g s r id e (no_call g s r id e f)) refl
inline_by g s r id true None e f h = rw (f, h, inline_message g s r id e (calls g s r id None e f h)) refl
inline_by g s r id true (Some p) e f h = rw (f, h, a_call g s (function id p.0, p.1) (name_no_literal s r id e) (calls g s r id (Some p) e f h)) refl

pub inline_at : (g : Level) (s r : List ℕ) (id : Text) → identifier s ≡ Some (id, r) → inline_expression g s ≡ reference_to g id r
inline_at g s r id e = inline_by g s r id (is_function_name id) (g.brackets r) e refl refl

pub inline_nameless : (g : Level) (s : List ℕ) → identifier s ≡ None → variable_reference s ≡ None → inline_expression g s ≡ nameless g s
unfolding inline_expression
inline_nameless g s e v = by_literal (literal s)
  where
    by_term : (t : Read Inline) → otherwise t (variable_reference <|> (nested <$> g.braces)) s ≡ otherwise t (nested <$> g.braces) s
    by_term None = rw v refl
    by_term (Some p) = refl

    by_literal : (l : Read Inline) → otherwise l (function_reference g <|> message_reference <|> term_reference g <|> variable_reference <|> (nested <$> g.braces)) s ≡ otherwise l (term_reference g <|> (nested <$> g.braces)) s
    by_literal None = rw (no_function g s e, no_message s e) (by_term (term_reference g s))
    by_literal (Some p) = refl

pub ruleset inline_kinds = (variable_first, inline_at, inline_nameless)

-- no name, no named argument
no_named : (s : List ℕ) → identifier s ≡ None → named_argument s ≡ None
unfolding named_argument
no_named s e = rw e refl

pub nameless_at : (g : Level) (s : List ℕ) → identifier s ≡ None → argument g s ≡ positional_argument g s
unfolding argument
nameless_at g s e = rw (no_named s e) refl

-- no colon
no_colon : (s r c : List ℕ) (id : Text) → identifier s ≡ Some (id, r) → skip blank r ≡ Some (tt, c) → byte 58 c ≡ None → named_argument s ≡ None
unfolding named_argument
no_colon s r c id e b n = rw (e, b, n) refl

pub plain_at : (g : Level) (s r c : List ℕ) (id : Text) → identifier s ≡ Some (id, r) → skip blank r ≡ Some (tt, c) → byte 58 c ≡ None → argument g s ≡ reference_argument g id r
unfolding argument
plain_at g s r c id e b n = rw (no_colon s r c id e b n, reference_at g s r id e) refl

-- a colon
colon : (s r c d v : List ℕ) (id : Text) → identifier s ≡ Some (id, r) → skip blank r ≡ Some (tt, c) → byte 58 c ≡ Some (tt, d) → skip blank d ≡ Some (tt, v) → (by_name <$> named_argument) s ≡ value_argument id v
unfolding named_argument
colon s r c d v id e b n k = rw (e, b, n, k) (valued (literal v))
  where
    valued : (x : Read Inline) → and_then (and_then x (λ i. pure (id, i))) (λ n. pure (by_name n)) ≡ and_then x (λ i. pure (by_name (id, i)))
    valued None = refl
    valued (Some p) = refl

-- a comma
after_comma : (c : ℕ) → (c == 44) ≡ true → (32 < c) × ((c == 46) ≡ false) × ((c == 58) ≡ false) × ((c == 40) ≡ false)
after_comma c e = (grind (arith, nat_tests), grind (arith, nat_tests), grind (arith, nat_tests), grind (arith, nat_tests))

pub message_before : (n : ℕ) (s r : List ℕ) (id : Text) → identifier s ≡ Some (id, r) → (first r == 44) ≡ true → argument (level n) s ≡ Some (positional (message id no_attribute), r)
message_before n s r id e c =
    let other = after_comma (first r) c in
    let blanks = no_spaces r other.0 in
    let read = (bare_message s r id e other.1).reads (level n) (no_brackets n r r blanks (no_byte 40 r other.3)) in
    plain_at (level n) s r r id e blanks (no_byte 58 r other.2) ∙ (sym (reference_at (level n) s r id e) ∙ rw read refl)

pub named_at : (g : Level) (s r c d v rest : List ℕ) (id : Text) (a : Argument) → identifier s ≡ Some (id, r) → skip blank r ≡ Some (tt, c) → byte 58 c ≡ Some (tt, d) → skip blank d ≡ Some (tt, v) → value_argument id v ≡ Some (a, rest) → argument g s ≡ Some (a, rest)
unfolding argument
named_at g s r c d v rest id a e b n k h = rw (colon s r c d v id e b n k, h) refl

pub unnamed_at : (g : Level) (s r c d v : List ℕ) (id : Text) → identifier s ≡ Some (id, r) → skip blank r ≡ Some (tt, c) → byte 58 c ≡ Some (tt, d) → skip blank d ≡ Some (tt, v) → value_argument id v ≡ None → argument g s ≡ reference_argument g id r
unfolding argument
unnamed_at g s r c d v id e b n k h = rw (colon s r c d v id e b n k, h, reference_at g s r id e) refl
