-- Inline expressions and call arguments are read by the prefix that they take, whatever stands after it.
use Rattle.std.proofs.Common.{◌≡◌, ◌==◌, ◌||◌, ℕ, Bool, true, false, List, [], ◌++◌, drop, Some, None, refl, sym, ap, ◌∙◌, subst, arith, eqb-true, inl, inr}
use Rattle.std.proofs.lemmas.Bool.{cases_Bool}
use Rattle.std.proofs.lemmas.Bool.Decides.{nat_tests}
use Rattle.fluent_ast.specs.Tree.{Text, Inline, Arguments, no_call, call, no_attribute, string, number, message, term, function, nested}
use Rattle.fluent_text.specs.Parser.{Read, Parser, ◌>>=◌, ◌>>◌, ◌<$>◌, ◌<|>◌, and_then, otherwise, pure, skip, byte, first}
use Rattle.fluent_text.specs.Lexical.{is_letter, identifier, blank}
use Rattle.fluent_syntax.specs.Expressions.{Level, provided, string_literal, number_literal, literal, attribute_access, message_reference, is_function_name, function_reference, optional_call, term_reference, inline_expression, named_argument, Argument, positional, by_name, argument, Gathered, add, is_well_formed, arguments_of, comma, argument_comma, last_argument, argument_list, call_arguments, variable_reference}
use Rattle.fluent_syntax.specs.Facts.Prefixes.{TakesTo, takes-then, takes-pure, takes-byte}
use Rattle.fluent_syntax.specs.Facts.LexicalPrefixes.{takes-blanks}
use Rattle.fluent_grammar_laws.proofs.Near.{closes, Near, near-byte, near-then, near-pure, shuts-map, is_read}
use Rattle.fluent_grammar_laws.proofs.NearRules.{near-identifier, near-attribute_access, near-message_reference, near-variable_reference, near-blanks, shuts-number_literal}
use Rattle.fluent_grammar_laws.proofs.NearStrings.{near-literal, near-named_argument}
use Rattle.fluent_grammar_laws.proofs.Known.{After, Closed, closed_after, cut, Known, Stops, Anywhere, lefts, Clash, Gives_way, way-clash, never, enters-closed, Closing, closing-bind, closing-byte, closing-provided, Fixed, fixed-near, fixed-weaker, fixed-any, fixed-bind, fixed-then, fixed-pure, fixed-map, fixed-provided, fixed-byte, fixed-or, fixed-many}
use Rattle.fluent_grammar_laws.proofs.Leads.{first_read, either_read, true_false, fails_at, is_blank, next, next_first, keeps-blanks, Leads, leads-bind, leads-keep, leads-byte, Starts, starts-bind, starts-or, starts-byte, starts-weaker, starts-identifier, starts-number_literal, may_start_number, clash-start}

-- ---- what rules begin with, and what stands after

abbrev pub is : ℕ → ℕ → Bool
is c n = n == c

-- what follows an inline expression: `}`, `)`, `,` or `->`
abbrev pub ends_inline : ℕ → Bool
ends_inline n = (n == 125 || n == 41) || (n == 44 || n == 45)

abbrev pub from_nested : Level → Parser Inline
from_nested g = nested <$> g.braces

abbrev pub from_variable : Level → Parser Inline
from_variable g = variable_reference <|> from_nested g

abbrev pub from_term : Level → Parser Inline
from_term g = term_reference g <|> from_variable g

abbrev pub from_message : Level → Parser Inline
from_message g = message_reference <|> from_term g

abbrev pub from_function : Level → Parser Inline
from_function g = function_reference g <|> from_message g

abbrev pub is_variable : ℕ → Bool
is_variable c = c == 36 || c == 123

abbrev pub is_term : ℕ → Bool
is_term c = c == 45 || is_variable c

abbrev pub no_literal : ℕ → Bool
no_literal c = is_letter c || is_term c

pub starts-term : (g : Level) → Starts (is 45) (term_reference g)
unfolding term_reference
starts-term g = starts-bind (is 45) (byte 45) _ (starts-byte (is 45) 45 refl refl)

pub starts-variable : Starts (is 36) variable_reference
unfolding variable_reference
starts-variable = starts-bind (is 36) (byte 36 >> identifier) _ (starts-bind (is 36) (byte 36) _ (starts-byte (is 36) 36 refl refl))

pub starts-message : Starts is_letter message_reference
unfolding message_reference
starts-message = starts-bind is_letter identifier _ starts-identifier

starts-function : (g : Level) → Starts is_letter (function_reference g)
unfolding function_reference
starts-function g = starts-bind is_letter identifier _ starts-identifier

-- no point is there
no_access : (t : List ℕ) → (first t == 46) ≡ false → attribute_access t ≡ Some (no_attribute, t)
unfolding attribute_access byte
no_access t e = rw e refl

pub no_point : (c : ℕ) (t : List ℕ) → (next t == c) ≡ true → (46 == c) ≡ false → (first t == 46) ≡ false
no_point c t e f =
    elim (cases_Bool (first t == 46)) [
      | inl point ↦
          let n : next t ≡ 46 = next_first t (ap (λ b. is_blank b (first (drop 1 t))) (eqb-true (first t) 46 point)) ∙ eqb-true (first t) 46 point in
          absurd (true_false (next t == c) e (ap (λ b. b == c) n ∙ f))
      | inr other ↦ other
    ]

-- a name and what stands after it
abbrev named_by : (g : Level) → Text → Parser Inline
named_by g id = attribute_access >>= (λ a. pure (message id a))

pub message_alone : (g : Level) (s : List ℕ) (id : Text) (t : List ℕ) (x : Inline) (r : List ℕ) → identifier s ≡ Some (id, t) → (first t == 46) ≡ false → from_message g s ≡ Some (x, r) → t ≡ r
unfolding message_reference
message_alone g s id t x r e n f =
    let m : message_reference s ≡ Some (message id no_attribute, t) = ap (λ z. and_then z (λ id. attribute_access >>= (λ a. pure (message id a)))) e ∙ ap (λ z. and_then z (λ a. pure (message id a))) (no_access t n) in
    lefts (message id no_attribute) x t r (sym (ap (λ z. otherwise z (from_term g) s) m) ∙ f)

-- what a function takes
call_after : (g : Level) (id : Text) (b : Bool) (t : List ℕ) (z : Inline × List ℕ) → (provided b >> (g.brackets >>= (λ a. pure (function id a)))) t ≡ Some z → (q : Arguments × List ℕ) × (g.brackets t ≡ Some q)
call_after g id true t z e = let (q, f, k) = first_read (g.brackets t) (λ a. pure (function id a)) z e in (q, f)
call_after g id false t z e = absurd (is_read z (sym e))

-- a literal that isn't read there is read nowhere
pub shuts_literal : (s t : List ℕ) → (first t == 34) ≡ false → (number <$> number_literal) t ≡ None → literal t ≡ None
unfolding literal string_literal byte
shuts_literal s t e f = rw (e, f) refl

pub second_none : {A : Type 0} (r : Read A) (q : Parser A) (s : List ℕ) → otherwise r q s ≡ None → q s ≡ None
second_none None q s e = e
second_none (Some z) q s e = absurd (is_read z e)

pub no_quote : (c : ℕ) → no_literal c ≡ true → (c == 34) ≡ false
no_quote c e = grind (arith, nat_tests)

abbrev pub may_start_literal : ℕ → Bool
may_start_literal c = c == 34 || may_start_number c

pub starts-literal : Starts may_start_literal literal
unfolding literal string_literal
starts-literal =
    starts-or may_start_literal (string <$> string_literal) (number <$> number_literal)
    (starts-weaker (is 34) may_start_literal (string <$> string_literal) (λ c e. grind (arith, nat_tests)) (starts-bind (is 34) string_literal _ (starts-bind (is 34) (byte 34) _ (starts-byte (is 34) 34 refl refl))))
    (starts-weaker may_start_number may_start_literal (number <$> number_literal) (λ c e. grind (arith, nat_tests)) (starts-bind may_start_number number_literal _ starts-number_literal))

leads-colon : (name : Text) → Leads {A = Text × Inline} (is 58) (skip blank >> (byte 58 >> (skip blank >> (literal >>= (λ v. pure (name, v))))))
leads-colon name = leads-keep (is 58) (skip blank) _ keeps-blanks (λ _. leads-bind (is 58) (byte 58) _ (leads-byte (is 58) 58 refl (λ n. refl) refl))

pub named_read : (s : List ℕ) (z : (Text × Inline) × List ℕ) → named_argument s ≡ Some z → (q : Text × List ℕ) × (identifier s ≡ Some q) × ((next q.1 == 58) ≡ true)
unfolding named_argument
named_read s z e = let (q, f, k) = first_read (identifier s) _ z e in (q, f, (leads-colon q.0).lead q.1 z k)

pub same_read : {A : Type 0} (r : Read A) (q p : A × List ℕ) → r ≡ Some q → r ≡ Some p → q.1 ≡ p.1
same_read r q p e f = lefts q.0 p.0 q.1 p.1 (sym e ∙ f)

abbrev pub may_start_argument : ℕ → Bool
may_start_argument c = may_start_literal c || no_literal c

pub starts-named : Starts is_letter named_argument
unfolding named_argument
starts-named = starts-bind is_letter identifier _ starts-identifier

solid_argument : (c n : ℕ) → may_start_argument c ≡ true → is_blank c n ≡ false
solid_argument c n e = grind (arith, nat_tests)

no_bracket : (c : ℕ) → may_start_argument c ≡ true → (c == 41) ≡ false
no_bracket c e = grind (arith, nat_tests)

pub leads-comma : (a : Argument) → Leads (is 44) (comma >> pure a)
unfolding comma
leads-comma a = leads-bind (is 44) comma _ (leads-keep (is 44) (skip blank) _ keeps-blanks (λ _. leads-bind (is 44) (byte 44) _ (leads-byte (is 44) 44 refl (λ n. refl) refl)))

near-comma : Near comma
unfolding comma
near-comma = near-then (skip blank) _ near-blanks (near-then (byte 44) (skip blank) (near-byte 44 refl) near-blanks)

-- a closing bracket after blanks, and what it gives
abbrev pub closed_by : {A : Type 0} → ℕ → A → Parser A
closed_by c x = skip blank >> (byte c >> pure x)

pub leads-closed_by : {A : Type 0} (c : ℕ) (x : A) → (0 == c) ≡ false → ((n : ℕ) → is_blank c n ≡ false) → (c == c) ≡ true → Leads (is c) (closed_by c x)
leads-closed_by c x some solid e = leads-keep (is c) (skip blank) _ keeps-blanks (λ _. leads-bind (is c) (byte c) _ (leads-byte (is c) c some solid e))

abbrev listed : Gathered → Parser Arguments
listed all = provided (is_well_formed all) >> closed_by 41 (arguments_of all)

leads-provided : {A : Type 0} (P : ℕ → Bool) (b : Bool) (p : Parser A) → Leads P p → Leads P (provided b >> p)
leads-provided P true p h = record { lead = λ t z e. h.lead t z e }
leads-provided P false p h = record { lead = λ t z e. absurd (is_read z (sym e)) }

leads-listed : (all : Gathered) → Leads (is 41) (listed all)
leads-listed all = leads-provided (is 41) (is_well_formed all) _ (leads-closed_by 41 (arguments_of all) refl (λ n. refl) refl)

pub leads-call_arguments : (g : Level) → Leads (is 40) (call_arguments g)
unfolding call_arguments
leads-call_arguments g = leads-keep (is 40) (skip blank) _ keeps-blanks (λ _. leads-bind (is 40) (byte 40) _ (leads-byte (is 40) 40 refl (λ n. refl) refl))

-- ---- what is read whatever follows

module _ (T : After) where
  -- ---- what stands after

  abbrev pub Ahead : (ℕ → Bool) → List ℕ → Type 0
  Ahead P v = (w : List ℕ) → T.may w → P (next (v ++ w)) ≡ true

  -- a text after which no rule looks, and the first byte after its blanks
  abbrev pub End : (ℕ → Bool) → List ℕ → Type 0
  End P v = (Closed T) v × Ahead P v

  pub ahead : {A : Type 0} (P : ℕ → Bool) (p : Parser A) (s : List ℕ) (x : A) (v : List ℕ) → Leads P p → (Known T) p s x v → Ahead P s
  ahead P p s x v h known = λ w i. h.lead (s ++ w) (x, v ++ w) (known w i)

  pub way-end : {A : Type 0} (P : ℕ → Bool) (p q : Parser A) → Clash (λ r. P (next r) ≡ true) p q → (Gives_way T) (End P) p q
  way-end P p q c = (way-clash T) (End P) (λ r. P (next r) ≡ true) p q (λ v w i here. here.1 w i) c

  -- ---- what may stand one level deeper

  pub record Firm (g : Level) : Type 0 where
    pub braces : (Fixed T) Anywhere g.braces
    pub brackets : (Fixed T) Anywhere g.brackets
    pub brace : Starts (is 123) g.braces
    pub bracket : Leads (is 40) g.brackets

  -- ---- references

  pub closed_end : (P : ℕ → Bool) (v : List ℕ) → End P v → (Closed T) v
  closed_end P v h = h.0

  pub closed_closed : (v : List ℕ) → (Closed T) v → (Closed T) v
  closed_closed v h = h

  fixed-function : (g : Level) → Firm g → (Fixed T) (Closed T) (function_reference g)
  unfolding function_reference
  fixed-function g h =
      (fixed-then T) (Closed T) identifier _ ((fixed-near T) identifier near-identifier)
      (λ id. (fixed-provided T) (Closed T) (is_function_name id) _ ((fixed-any T) (Closed T) _ ((fixed-map T) Anywhere (λ a. function id a) g.brackets h.brackets))) closed_closed

  fixed-call : (g : Level) → Firm g → (Fixed T) (End ends_inline) (optional_call g)
  unfolding optional_call
  fixed-call g h =
      (fixed-or T) (End ends_inline) (call <$> g.brackets) (pure no_call) ((fixed-any T) (End ends_inline) _ ((fixed-map T) Anywhere call g.brackets h.brackets)) ((fixed-pure T) (End ends_inline) no_call)
      (way-end ends_inline (call <$> g.brackets) (pure no_call) clash)
    where
      clash : Clash (λ r. ends_inline (next r) ≡ true) (call <$> g.brackets) (pure no_call)
      clash t y x r e f here = fails_at 40 ends_inline (next t) ((leads-bind (is 40) g.brackets _ h.bracket).lead t y e) refl (ap (λ s. ends_inline (next s)) (lefts no_call x t r f) ∙ here)

  fixed-term : (g : Level) → Firm g → (Fixed T) (End ends_inline) (term_reference g)
  unfolding term_reference
  fixed-term g h =
      (fixed-then T) (End ends_inline) (byte 45) _ ((fixed-near T) (byte 45) (near-byte 45 refl)) (λ _.
      (fixed-then T) (End ends_inline) identifier _ ((fixed-near T) identifier near-identifier) (λ id.
      (fixed-then T) (End ends_inline) attribute_access _ ((fixed-near T) attribute_access near-attribute_access) (λ a.
      (fixed-map T) (End ends_inline) (λ c. term id a c) (optional_call g) (fixed-call g h)) (closed_end ends_inline)) (closed_end ends_inline)) (closed_end ends_inline)

  -- ---- inline expressions

  pub starts-nested : (g : Level) → Firm g → Starts (is 123) (from_nested g)
  starts-nested g h = starts-bind (is 123) g.braces _ h.brace

  pub starts-from_variable : (g : Level) → Firm g → Starts is_variable (from_variable g)
  starts-from_variable g h = starts-or is_variable variable_reference (from_nested g) (starts-weaker (is 36) is_variable variable_reference (λ c e. grind (arith, nat_tests)) starts-variable) (starts-weaker (is 123) is_variable (from_nested g) (λ c e. grind (arith, nat_tests)) (starts-nested g h))

  pub starts-from_term : (g : Level) → Firm g → Starts is_term (from_term g)
  starts-from_term g h = starts-or is_term (term_reference g) (from_variable g) (starts-weaker (is 45) is_term (term_reference g) (λ c e. grind (arith, nat_tests)) (starts-term g)) (starts-weaker is_variable is_term (from_variable g) (λ c e. grind (arith, nat_tests)) (starts-from_variable g h))

  pub starts-from_message : (g : Level) → Firm g → Starts no_literal (from_message g)
  starts-from_message g h = starts-or no_literal message_reference (from_term g) (starts-weaker is_letter no_literal message_reference (λ c e. grind (arith, nat_tests)) starts-message) (starts-weaker is_term no_literal (from_term g) (λ c e. grind (arith, nat_tests)) (starts-from_term g h))

  pub starts-from_function : (g : Level) → Firm g → Starts no_literal (from_function g)
  starts-from_function g h = starts-or no_literal (function_reference g) (from_message g) (starts-weaker is_letter no_literal (function_reference g) (λ c e. grind (arith, nat_tests)) (starts-function g)) (starts-from_message g h)

  fixed-from_variable : (g : Level) → Firm g → (Fixed T) (End ends_inline) (from_variable g)
  fixed-from_variable g h =
      (fixed-or T) (End ends_inline) variable_reference (from_nested g) ((fixed-weaker T) (Closed T) (End ends_inline) _ (closed_end ends_inline) ((fixed-near T) variable_reference near-variable_reference)) ((fixed-any T) (End ends_inline) _ ((fixed-map T) Anywhere nested g.braces h.braces))
      (way-end ends_inline variable_reference (from_nested g) (clash-start _ (is 36) (is 123) variable_reference (from_nested g) starts-variable (starts-nested g h) (λ c e f. absurd (grind (arith, nat_tests)))))

  fixed-from_term : (g : Level) → Firm g → (Fixed T) (End ends_inline) (from_term g)
  fixed-from_term g h =
      (fixed-or T) (End ends_inline) (term_reference g) (from_variable g) (fixed-term g h) (fixed-from_variable g h)
      (way-end ends_inline (term_reference g) (from_variable g) (clash-start _ (is 45) is_variable (term_reference g) (from_variable g) (starts-term g) (starts-from_variable g h) (λ c e f. absurd (grind (arith, nat_tests)))))

  fixed-from_message : (g : Level) → Firm g → (Fixed T) (End ends_inline) (from_message g)
  fixed-from_message g h =
      (fixed-or T) (End ends_inline) message_reference (from_term g) ((fixed-weaker T) (Closed T) (End ends_inline) _ (closed_end ends_inline) ((fixed-near T) message_reference near-message_reference)) (fixed-from_term g h)
      (way-end ends_inline message_reference (from_term g) (clash-start _ is_letter is_term message_reference (from_term g) starts-message (starts-from_term g h) (λ c e f. absurd (grind (arith, nat_tests)))))

  -- ---- a name before which no call stands is a reference

  pub function_read : (g : Level) → Firm g → (s : List ℕ) (z : Inline × List ℕ) → function_reference g s ≡ Some z → (q : Text × List ℕ) × (identifier s ≡ Some q) × ((next q.1 == 40) ≡ true)
  unfolding function_reference
  function_read g h s z e =
      let (q, f, k) = first_read (identifier s) _ z e in
      let (a, b) = call_after g q.0 (is_function_name q.0) q.1 z k in
      (q, f, h.bracket.lead q.1 a b)

  clash-function : (g : Level) → Firm g → Clash (λ r. ends_inline (next r) ≡ true) (function_reference g) (from_message g)
  clash-function g h = λ t y x r e f here.
      let (q, a, n) = function_read g h t y e in
      let same : q.1 ≡ r = message_alone g t q.0 q.1 x r a (no_point 40 q.1 n refl) f in
      fails_at 40 ends_inline (next q.1) n refl (ap (λ s. ends_inline (next s)) same ∙ here)

  fixed-from_function : (g : Level) → Firm g → (Fixed T) (End ends_inline) (from_function g)
  fixed-from_function g h =
      (fixed-or T) (End ends_inline) (function_reference g) (from_message g) ((fixed-weaker T) (Closed T) (End ends_inline) _ (closed_end ends_inline) (fixed-function g h)) (fixed-from_message g h)
      (way-end ends_inline (function_reference g) (from_message g) (clash-function g h))

  -- ---- literals before the others

  way-literal : (g : Level) → Firm g → (Gives_way T) (End ends_inline) literal (from_function g)
  unfolding literal
  way-literal g h = λ s x v here e known.
      let fr : (u : List ℕ) × (s ++ T.here ≡ u ++ (v ++ T.here)) = subst (TakesTo (s ++ T.here)) (known T.here T.holds) ((fixed-from_function g h).takes.prefix (s ++ T.here)) in
      let c : (Closed T) s = (closed_after T) s fr.0 v ((cut T) s fr.0 v fr.1) here.0 in
      λ w' i. shuts_literal (s ++ T.here) (s ++ w') (no_quote (first (s ++ w')) ((starts-from_function g h).start (s ++ w') (x, v ++ w') (known w' i)))
      ((shuts-map number number_literal shuts-number_literal).shut (s ++ T.here) (s ++ w') (c T.here w' T.holds i) (second_none ((string <$> string_literal) (s ++ T.here)) (number <$> number_literal) (s ++ T.here) e))

  pub fixed-inline : (g : Level) → Firm g → (Fixed T) (End ends_inline) (inline_expression g)
  unfolding inline_expression
  fixed-inline g h =
      (fixed-or T) (End ends_inline) literal (from_function g) ((fixed-weaker T) (Closed T) (End ends_inline) _ (closed_end ends_inline) ((fixed-near T) literal near-literal)) (fixed-from_function g h) (way-literal g h)

  -- ---- arguments

  -- a name before a colon is no inline expression that ends there
  clash-colon : (g : Level) → Firm g → (t : List ℕ) (q : Text × List ℕ) (x : Inline) (r : List ℕ) → identifier t ≡ Some q → (next q.1 == 58) ≡ true → inline_expression g t ≡ Some (x, r) → ends_inline (next r) ≡ true → ⊥
  unfolding inline_expression
  clash-colon g h t q x r e n f here =
      elim (either_read (literal t) (from_function g) t (x, r) f) [
        | inl lit ↦ let a = starts-identifier.start t q e in let b = starts-literal.start t (x, r) lit in absurd (grind (arith, nat_tests))
        | inr rest ↦ elim (either_read (function_reference g t) (from_message g) t (x, r) rest) [
          | inl fun ↦ let (p, a, m) = function_read g h t (x, r) fun in fails_at 58 (is 40) (next q.1) n refl (ap (λ s. next s == 40) (same_read (identifier t) q p e a) ∙ m)
          | inr mes ↦ fails_at 58 ends_inline (next q.1) n refl (ap (λ s. ends_inline (next s)) (message_alone g t q.0 q.1 x r e (no_point 58 q.1 n refl) mes) ∙ here)
        ]
      ]

  clash-argument : (g : Level) → Firm g → Clash (λ r. ends_inline (next r) ≡ true) (by_name <$> named_argument) (positional <$> inline_expression g)
  clash-argument g h = λ t y x r e f here.
      let (a, b, c) = first_read (named_argument t) _ y e in
      let (q, i, n) = named_read t a b in
      let (z, j, k) = first_read (inline_expression g t) _ (x, r) f in
      clash-colon g h t q z.0 z.1 i n j (ap (λ s. ends_inline (next s)) (lefts (positional z.0) x z.1 r k) ∙ here)

  fixed-argument : (g : Level) → Firm g → (Fixed T) (End ends_inline) (argument g)
  unfolding argument
  fixed-argument g h =
      (fixed-or T) (End ends_inline) (by_name <$> named_argument) (positional <$> inline_expression g) ((fixed-weaker T) (Closed T) (End ends_inline) _ (closed_end ends_inline) ((fixed-map T) (Closed T) by_name named_argument ((fixed-near T) named_argument near-named_argument)))
      ((fixed-map T) (End ends_inline) positional (inline_expression g) (fixed-inline g h)) (way-end ends_inline (by_name <$> named_argument) (positional <$> inline_expression g) (clash-argument g h))

  starts-inline : (g : Level) → Firm g → Starts may_start_argument (inline_expression g)
  unfolding inline_expression
  starts-inline g h =
      starts-or may_start_argument literal (from_function g) (starts-weaker may_start_literal may_start_argument literal (λ c e. grind (arith, nat_tests)) starts-literal) (starts-weaker no_literal may_start_argument (from_function g) (λ c e. grind (arith, nat_tests)) (starts-from_function g h))

  pub starts-argument : (g : Level) → Firm g → Starts may_start_argument (argument g)
  unfolding argument
  starts-argument g h =
      starts-or may_start_argument (by_name <$> named_argument) (positional <$> inline_expression g) (starts-weaker is_letter may_start_argument (by_name <$> named_argument) (λ c e. grind (arith, nat_tests)) (starts-bind is_letter named_argument _ starts-named)) (starts-bind may_start_argument (inline_expression g) _ (starts-inline g h))

  -- no argument is where a bracket closes
  argument_next : (g : Level) → Firm g → (t : List ℕ) (z : Argument × List ℕ) → argument g t ≡ Some z → (next t == 41) ≡ true → ⊥
  argument_next g h t z e n =
      let b = (starts-argument g h).start t z e in
      true_false (next t == 41) n (ap (λ c. c == 41) (next_first t (solid_argument (first t) (first (drop 1 t)) b)) ∙ no_bracket (first t) b)

  pub inline_end : (c : ℕ) → (P : ℕ → Bool) → ((n : ℕ) → (n == c) ≡ true → P n ≡ true) → (s : List ℕ) → Ahead (is c) s → Ahead P s
  inline_end c P f s h = λ w i. f (next (s ++ w)) (h w i)

  fixed-argument_comma : (g : Level) → Firm g → (Fixed T) (Closed T) (argument_comma g)
  unfolding argument_comma
  fixed-argument_comma g h =
      (fixed-bind T) (End ends_inline) (Closed T) (argument g) _ (fixed-argument g h) (λ a. (fixed-near T) (comma >> pure a) (near-then comma (pure a) near-comma (near-pure a)))
      (λ a x v1 u v e known c. ((closed_after T) v1 u v e c, inline_end 44 ends_inline (λ n k. grind (arith, nat_tests)) v1 (ahead (is 44) (comma >> pure a) v1 x v (leads-comma a) known)))

  clash-last : (g : Level) → Firm g → (before : Gathered) → Clash (λ r. (next r == 41) ≡ true) (add before <$> argument g) (pure before)
  clash-last g h before = λ t y x r e f here.
      let (z, i, k) = first_read (argument g t) _ y e in
      argument_next g h t z i (ap (λ s. next s == 41) (lefts before x t r f) ∙ here)

  fixed-last : (g : Level) → Firm g → (before : Gathered) → (Fixed T) (End (is 41)) (last_argument g before)
  fixed-last g h before =
      (fixed-or T) (End (is 41)) (add before <$> argument g) (pure before)
      ((fixed-map T) (End (is 41)) (add before) (argument g) ((fixed-weaker T) (End ends_inline) (End (is 41)) (argument g) (λ v here. (here.0, inline_end 41 ends_inline (λ n k. grind (arith, nat_tests)) v here.1)) (fixed-argument g h)))
      ((fixed-pure T) (End (is 41)) before) (way-end (is 41) (add before <$> argument g) (pure before) (clash-last g h before))

  -- where the last argument ends the list, no comma follows it
  clash-comma : (g : Level) → Firm g → (before : Gathered) → Clash (λ r. (next r == 41) ≡ true) (argument_comma g) (last_argument g before)
  unfolding argument_comma
  clash-comma g h before = λ t y x r e f here.
      let (z, i, k) = first_read (argument g t) _ y e in
      let n : (next z.1 == 44) ≡ true = (leads-comma z.0).lead z.1 y k in
      let m : last_argument g before t ≡ Some (add before z.0, z.1) = ap (λ b. otherwise (and_then b (λ a. pure (add before a))) (pure before) t) i in
      fails_at 44 (is 41) (next z.1) n refl (ap (λ s. next s == 41) (lefts (add before z.0) x z.1 r (sym m ∙ f)) ∙ here)

  fixed-argument_list : (g : Level) → Firm g → (Fixed T) (End (is 41)) (argument_list g)
  unfolding argument_list
  fixed-argument_list g h =
      (fixed-bind T) (λ v. (Closed T) v × (Stops T) (argument_comma g) v) (End (is 41)) _ (last_argument g) ((fixed-many T) (Closed T) add (argument_comma g) ([], [], true) (fixed-argument_comma g h) ((enters-closed T) (argument_comma g))) (fixed-last g h)
      (λ before x v1 u v e known here. ((closed_after T) v1 u v e here.0, λ w i. never (argument_comma g) (v1 ++ w) (λ y f. clash-comma g h before (v1 ++ w) y x (v ++ w) f (known w i) (here.1 w i))))

  -- ---- what closes

  pub fixed-closed_by : {A : Type 0} (c : ℕ) (x : A) → (0 == c) ≡ false → closes c ≡ true → (Fixed T) Anywhere (closed_by c x)
  fixed-closed_by c x some e =
      (fixed-bind T) (Closed T) Anywhere (skip blank) _ ((fixed-near T) (skip blank) near-blanks) (λ _. (fixed-map T) Anywhere (λ _. x) (byte c) ((fixed-byte T) c some))
      (λ a y v1 u v f known here. ((closing-byte T) c some e (pure x) (takes-pure x)).closing v1 y v (known T.here T.holds))

  pub closing-closed_by : {A : Type 0} (c : ℕ) (x : A) → (0 == c) ≡ false → closes c ≡ true → (Closing T) (closed_by c x)
  closing-closed_by c x some e = (closing-bind T) (skip blank) _ takes-blanks (λ _. takes-then (byte c) (pure x) (takes-byte c) (takes-pure x)) (λ _. (closing-byte T) c some e (pure x) (takes-pure x))

  -- ---- call arguments

  fixed-listed : (all : Gathered) → (Fixed T) Anywhere (listed all)
  unfolding closes
  fixed-listed all = (fixed-provided T) Anywhere (is_well_formed all) _ (fixed-closed_by 41 (arguments_of all) refl refl)

  closing-listed : (all : Gathered) → (Closing T) (listed all)
  unfolding closes
  closing-listed all = (closing-provided T) (is_well_formed all) _ (closing-closed_by 41 (arguments_of all) refl refl)

  fixed-inside : (g : Level) → Firm g → (Fixed T) Anywhere (argument_list g >>= listed)
  fixed-inside g h =
      (fixed-bind T) (End (is 41)) Anywhere (argument_list g) listed (fixed-argument_list g h) fixed-listed
      (λ all x v1 u v e known here. ((closing-listed all).closing v1 x v (known T.here T.holds), ahead (is 41) (listed all) v1 x v (leads-listed all) known))

  closing-inside : (g : Level) → Firm g → (Closing T) (argument_list g >>= listed)
  closing-inside g h = (closing-bind T) (argument_list g) listed (fixed-argument_list g h).takes (λ all. (fixed-listed all).takes) closing-listed

  fixed-opened : (g : Level) → Firm g → (Fixed T) Anywhere (skip blank >> (argument_list g >>= listed))
  fixed-opened g h =
      (fixed-bind T) (Closed T) Anywhere (skip blank) _ ((fixed-near T) (skip blank) near-blanks) (λ _. fixed-inside g h) (λ a x v1 u v e known here. (closing-inside g h).closing v1 x v (known T.here T.holds))

  closing-opened : (g : Level) → Firm g → (Closing T) (skip blank >> (argument_list g >>= listed))
  closing-opened g h = (closing-bind T) (skip blank) _ takes-blanks (λ _. (fixed-inside g h).takes) (λ _. closing-inside g h)

  fixed-bracket : (g : Level) → Firm g → (Fixed T) Anywhere (byte 40 >> (skip blank >> (argument_list g >>= listed)))
  fixed-bracket g h = (fixed-bind T) Anywhere Anywhere (byte 40) _ ((fixed-byte T) 40 refl) (λ _. fixed-opened g h) (λ a x v1 u v e known here. tt)

  closing-bracket : (g : Level) → Firm g → (Closing T) (byte 40 >> (skip blank >> (argument_list g >>= listed)))
  closing-bracket g h = (closing-bind T) (byte 40) _ (takes-byte 40) (λ _. (fixed-opened g h).takes) (λ _. closing-opened g h)

  pub fixed-call_arguments : (g : Level) → Firm g → (Fixed T) Anywhere (call_arguments g)
  unfolding call_arguments
  fixed-call_arguments g h =
      (fixed-bind T) (Closed T) Anywhere (skip blank) _ ((fixed-near T) (skip blank) near-blanks) (λ _. fixed-bracket g h) (λ a x v1 u v e known here. (closing-bracket g h).closing v1 x v (known T.here T.holds))
