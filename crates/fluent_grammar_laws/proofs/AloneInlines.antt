-- Inline expressions and arguments read the same where what stands after them is taken away.
use Rattle.std.proofs.Common.{◌≡◌, ◌==◌, ◌&&◌, ℕ, Bool, true, List, [], ◌++◌, Some, None, refl, ap, ◌∙◌, arith, eqb-true, inl, inr}
use Rattle.std.specs.Prelude.{not}
use Rattle.std.proofs.lemmas.Bool.Decides.{nat_tests}
use Rattle.fluent_ast.specs.Tree.{Text, Inline, string, number, nested}
use Rattle.fluent_text.specs.Parser.{Parser, ◌>>=◌, ◌>>◌, ◌<$>◌, ◌<|>◌, and_then, pure, skip, byte, first}
use Rattle.fluent_text.specs.Lexical.{is_letter, identifier, blank, blank_turn}
use Rattle.fluent_syntax.specs.Expressions.{level, string_literal, number_literal, literal, message_reference, function_reference, term_reference, inline_expression, named_argument, Argument, positional, by_name, argument, Gathered, add, comma, argument_comma, last_argument, argument_list, variable_reference}
use Rattle.fluent_grammar_laws.proofs.Known.{lefts, unread}
use Rattle.fluent_grammar_laws.proofs.Leads.{first_read, either_read, true_false, fails_at, next, Starts, starts-identifier}
use Rattle.fluent_grammar_laws.proofs.KnownRules.{is, from_nested, from_variable, from_term, from_message, from_function, is_variable, is_term, may_start_literal, may_start_argument, starts-term, starts-variable, starts-message, starts-literal, second_none, no_quote, shuts_literal, starts-nested, starts-from_variable, starts-from_term, starts-from_function, starts-argument, message_alone, no_point, named_read, same_read, function_read, leads-comma}
use Rattle.fluent_grammar_laws.proofs.KnownPatterns.{firm}
use Rattle.fluent_grammar_laws.proofs.Alone.{Seam, Any, Whole, Alone, alone-weaker, alone-any, alone-bind, alone-then, alone-pure, alone-map, Way, alone-or, lasts-map, Rests, Enters, alone-many}
use Rattle.fluent_grammar_laws.proofs.AloneRules.{nowhere, way-starts, alone-identifier, Blankless, alone-blanks, no_blank, alone-after, alone-after_byte, alone-literal, lasts-number_literal, alone-message_reference, alone-variable_reference, alone-braces, alone-function, alone-term_reference, no_blanks}

-- ---- inline expressions

-- neither a call nor a value is after the blanks that are left
abbrev pub free : ℕ → Bool
free n = not (n == 40) && not (n == 58)

abbrev pub Free : Seam
Free v w = free (next v) ≡ true

alone-from_variable : (n : ℕ) → Alone Any (from_variable (level n))
alone-from_variable n =
    alone-or Any variable_reference (from_nested (level n)) alone-variable_reference (alone-map Any nested (level n).braces (alone-braces n))
    (way-starts Any (is 36) (is 123) variable_reference (from_nested (level n)) starts-variable (starts-nested nowhere (level n) (firm nowhere n)) (λ c e f. absurd (grind (arith, nat_tests))))

alone-from_term : (n : ℕ) → Alone Any (from_term (level n))
alone-from_term n =
    alone-or Any (term_reference (level n)) (from_variable (level n)) (alone-term_reference n) (alone-from_variable n)
    (way-starts Any (is 45) is_variable (term_reference (level n)) (from_variable (level n)) (starts-term (level n)) (starts-from_variable nowhere (level n) (firm nowhere n)) (λ c e f. absurd (grind (arith, nat_tests))))

alone-from_message : (n : ℕ) → Alone Any (from_message (level n))
alone-from_message n =
    alone-or Any message_reference (from_term (level n)) alone-message_reference (alone-from_term n)
    (way-starts Any is_letter is_term message_reference (from_term (level n)) starts-message (starts-from_term nowhere (level n) (firm nowhere n)) (λ c e f. absurd (grind (arith, nat_tests))))

-- a name before arguments is no reference that ends there
alone-from_function : (n : ℕ) → Alone Free (from_function (level n))
alone-from_function n =
    alone-or Free (function_reference (level n)) (from_message (level n)) (alone-any Free (function_reference (level n)) (alone-function n)) (alone-any Free (from_message (level n)) (alone-from_message n))
    (λ s x v w here e g. unread (function_reference (level n) s) (λ y f.
    let (q, a, b) = function_read nowhere (level n) (firm nowhere n) s y f in
    let same : q.1 ≡ v = message_alone (level n) s q.0 q.1 x v a (no_point 40 q.1 b refl) g in
    fails_at 40 free (next q.1) b refl (ap (λ t. free (next t)) same ∙ here)))

opened : (s : List ℕ) → literal s ≡ None → ((string <$> string_literal) <|> (number <$> number_literal)) s ≡ None
unfolding literal
opened s e = e

way-literal : (n : ℕ) → Way Free literal (from_function (level n))
way-literal n = λ s x v w here e g.
    shuts_literal s s (no_quote (first s) ((starts-from_function nowhere (level n) (firm nowhere n)).start s (x, v) g))
    ((lasts-map number number_literal lasts-number_literal).lasts s w (second_none ((string <$> string_literal) (s ++ w)) (number <$> number_literal) (s ++ w) (opened (s ++ w) e)))

pub alone-inline : (n : ℕ) → Alone Free (inline_expression (level n))
unfolding inline_expression
alone-inline n = alone-or Free literal (from_function (level n)) (alone-any Free literal alone-literal) (alone-from_function n) (way-literal n)

-- ---- arguments

pub alone-named_argument : Alone Any named_argument
unfolding named_argument
alone-named_argument =
    alone-then Any identifier _ alone-identifier (λ name.
    alone-after_byte Any 58 (skip blank >> (literal >>= (λ v. pure (name, v)))) refl refl refl
    (alone-after Any may_start_literal (literal >>= (λ v. pure (name, v))) (leads name) (λ c e. grind (arith, nat_tests)) (alone-map Any (λ v. (name, v)) literal alone-literal)))
  where
    leads : (name : Text) → Starts {A = Text × Inline} may_start_literal (literal >>= (λ v. pure (name, v)))
    leads name = record { start = λ t z e. let (q, f, g) = first_read (literal t) (λ v. pure (name, v)) z e in starts-literal.start t q f }

-- a name before a colon is no inline expression that ends there
no_colon : (n : ℕ) (t : List ℕ) (q : Text × List ℕ) (x : Inline) (r : List ℕ) → identifier t ≡ Some q → (next q.1 == 58) ≡ true → inline_expression (level n) t ≡ Some (x, r) → free (next r) ≡ true → ⊥
unfolding inline_expression
no_colon n t q x r e colon f here =
    elim (either_read (literal t) (from_function (level n)) t (x, r) f) [
      | inl lit ↦ let a = starts-identifier.start t q e in let b = starts-literal.start t (x, r) lit in absurd (grind (arith, nat_tests))
      | inr rest ↦ elim (either_read (function_reference (level n) t) (from_message (level n)) t (x, r) rest) [
        | inl fun ↦ let (p, a, m) = function_read nowhere (level n) (firm nowhere n) t (x, r) fun in fails_at 58 (is 40) (next q.1) colon refl (ap (λ s. next s == 40) (same_read (identifier t) q p e a) ∙ m)
        | inr mes ↦ fails_at 58 free (next q.1) colon refl (ap (λ s. free (next s)) (message_alone (level n) t q.0 q.1 x r e (no_point 58 q.1 colon refl) mes) ∙ here)
      ]
    ]

pub alone-argument : (n : ℕ) → Alone Free (argument (level n))
unfolding argument
alone-argument n =
    alone-or Free (by_name <$> named_argument) (positional <$> inline_expression (level n)) (alone-any Free (by_name <$> named_argument) (alone-map Any by_name named_argument alone-named_argument)) (alone-map Free positional (inline_expression (level n)) (alone-inline n))
    (λ s x v w here e g. unread ((by_name <$> named_argument) s) (λ y f.
    let (a, b, c) = first_read (named_argument s) (λ m. pure (by_name m)) y f in
    let (q, i, colon) = named_read s a b in
    let (z, j, k) = first_read (inline_expression (level n) s) (λ m. pure (positional m)) (x, v) g in
    no_colon n s q z.0 z.1 i colon j (ap (λ t. free (next t)) (lefts (positional z.0) x z.1 v k) ∙ here)))

alone-comma : Alone Blankless comma
unfolding comma
alone-comma = alone-after_byte Blankless 44 (skip blank) refl refl refl alone-blanks

free_comma : (c : ℕ) → (c == 44) ≡ true → free c ≡ true
free_comma c e = ap free (eqb-true c 44 e)

alone-argument_comma : (n : ℕ) → Alone Blankless (argument_comma (level n))
unfolding argument_comma
alone-argument_comma n = alone-bind Free Blankless (argument (level n)) (λ a. comma >> pure a) (alone-argument n) (λ a. alone-map Blankless (λ _. a) comma alone-comma) (λ a x t v w e g here. free_comma (next t) ((leads-comma a).lead t (x, v) g))

starts-argument_here : (n : ℕ) → Starts may_start_argument (argument (level n))
starts-argument_here n = starts-argument nowhere (level n) (firm nowhere n)

argument_over : (n : ℕ) (t : List ℕ) (z : Argument × List ℕ) → argument (level n) t ≡ Some z → Rests blank_turn t
argument_over n t z e = let b = (starts-argument_here n).start t z e in inr (no_blank t (grind (arith, nat_tests)))

enters-argument_comma : (n : ℕ) → Enters Blankless (argument_comma (level n))
unfolding argument_comma
enters-argument_comma n = λ a s v w e g less here. let (q, i, j) = first_read (argument (level n) s) (λ a. comma >> pure a) (a, v) g in argument_over n s q i

no_argument : (n : ℕ) → argument (level n) [] ≡ None
no_argument n = unread (argument (level n) []) (λ z e. true_false (may_start_argument 0) ((starts-argument_here n).start [] z e) refl)

pub whole_free : (v w : List ℕ) → Whole v w → Free v w
unfolding next
whole_free v w here = ap (λ t. free (next t)) here

abbrev last_one : ℕ → Gathered → Parser Gathered
last_one n before = add before <$> argument (level n)

alone-last : (n : ℕ) (before : Gathered) → Alone Whole (last_argument (level n) before)
alone-last n before =
    alone-or Whole (last_one n before) (pure before) (alone-map Whole (add before) (argument (level n)) (alone-weaker Free Whole (argument (level n)) whole_free (alone-argument n))) (alone-pure Whole before)
    (λ s x v w here e g. ap (last_one n before) (lefts before x s v g ∙ here) ∙ ap (λ r. and_then r (λ a. pure (add before a))) (no_argument n))

-- where nothing is left, no comma is
no_comma : (a : Argument) → (comma >> pure a) [] ≡ None
unfolding comma byte
no_comma a = rw no_blanks refl

last_rests : (n : ℕ) (t : List ℕ) (a : Argument) → argument (level n) t ≡ Some (a, []) → Rests (argument_comma (level n)) t
unfolding argument_comma
last_rests n t a e = inr (ap (λ r. and_then r (λ a. comma >> pure a)) e ∙ no_comma a)

pub alone-argument_list : (n : ℕ) → Alone Whole (argument_list (level n))
unfolding argument_list
alone-argument_list n =
    alone-bind (λ v w. Blankless v w × Rests (argument_comma (level n)) v) Whole _ (last_argument (level n)) (alone-many Blankless add (argument_comma (level n)) ([], [], true) (alone-argument_comma n) (enters-argument_comma n)) (alone-last n)
    (λ before x t v w e g here. elim (either_read (last_one n before t) (pure before) t (x, v) g) [
      | inl some ↦
          let (q, i, j) = first_read (argument (level n) t) (λ a. pure (add before a)) (x, v) some in
          (argument_over n t q i, last_rests n t q.0 (i ∙ ap (λ r. Some (q.0, r)) (lefts (add before q.0) x q.1 v j ∙ here)))
      | inr none ↦ let z : t ≡ [] = lefts before x t v none ∙ here in (inl z, inl z)
    ])
