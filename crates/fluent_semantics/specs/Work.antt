-- The work of a run: placeables opened, the longest path, patterns entered.
use Rattle.std.specs.Prelude.{ℕ, zero, suc, ◌+◌, max, List, [], ◌∷◌, Bool}
use Rattle.fluent_ast.specs.Tree.{Text, Pattern, nothing, more, text, placeable, Expression, inline, select, Variants, no_variants, variant, Inline, string, number, function, message, term, variable, nested, no_call, call, Arguments, arguments, Inlines, no_inlines, argument, Nameds, no_nameds, named_argument}
use Rattle.fluent_semantics.specs.Bundle.{Bundle, stored}
use Rattle.fluent_semantics.specs.Walk.{Environment, Steps, deep}
use Rattle.fluent_semantics.specs.Meaning.{Budget, left, limit_reached, at_most, Ran, after_errors, after_text, closed, at_limit, nothing_more, within_budget}

-- a run beside its counts
pub record Worked (A : Type 0) : Type 0 where
  pub ran : Ran A
  pub opened : ℕ
  pub longest : ℕ
  pub entered : ℕ

abbrev pub counting : {A : Type 0} → ℕ → ℕ → ℕ → Ran A → Worked A
counting opened longest entered r = record { ran = r; opened = opened; longest = longest; entered = entered }

-- the counts of two parts of a run, whatever became of their values
abbrev pub together : {A B D : Type 0} → Worked A → Worked B → Ran D → Worked D
together m k r = record { ran = r; opened = m.opened + k.opened; longest = max m.longest k.longest; entered = m.entered + k.entered }

abbrev pub work_element : (Budget → Worked Text) → (Budget → Worked Text) → Budget → Worked Text
work_element m rest (left n) = let w = m (left n) in let v = rest w.ran.budget in together w v (after_text w.ran v.ran)
work_element m rest limit_reached = counting 0 0 0 nothing_more

abbrev pub work_opens : Bool → Text → (Budget → Worked Text) → Budget → Worked Text
work_opens marked fallback m (left zero) = counting 0 0 0 at_limit
work_opens marked fallback m (left (suc n)) = let w = m (left n) in record w { ran = closed marked fallback w.ran; opened = w.opened + 1 }
work_opens marked fallback m limit_reached = counting 0 0 0 nothing_more

-- the budgeted meaning with its counts
abbrev pub with_work : Steps
with_work = record {
  M = λ A. Budget → Worked A;
  give = λ x b. counting 0 0 0 (within_budget.give x b);
  fails = λ e x b. counting 0 0 0 (within_budget.fails e x b);
  bind = λ m f b. let w = m b in let v = f w.ran.value w.ran.budget in together w v (after_errors w.ran.errors v.ran);
  element = work_element;
  opens = work_opens;
  enters = λ n m b. let w = m b in record w { longest = max n w.longest; entered = w.entered + 1 };
}

unfoldable pub worked : {C : Type 0} → Bundle C → ℕ → Environment C → List Pattern → Pattern → Budget → Worked Text
worked = deep with_work

-- from a budget
abbrev pub work : {C : Type 0} → Bundle C → Environment C → List Pattern → Pattern → Budget → Worked Text
work b env path p budget = worked b (suc (at_most budget)) env path p budget

-- ---- how large the expressions of placeables are

abbrev mutual
  -- the nodes of an expression: its selects and inline expressions, those in arguments, selectors and nested placeables too, those in variants' patterns not
  pub nodes : Expression → ℕ
  nodes (inline x) = inline_nodes x
  nodes (select x vs) = 1 + inline_nodes x

  pub inline_nodes : Inline → ℕ
  inline_nodes (string t) = 1
  inline_nodes (number t) = 1
  inline_nodes (function f a) = 1 + arguments_nodes a
  inline_nodes (message m a) = 1
  inline_nodes (term t a no_call) = 1
  inline_nodes (term t a (call c)) = 1 + arguments_nodes c
  inline_nodes (variable v) = 1
  inline_nodes (nested e) = 1 + nodes e

  pub arguments_nodes : Arguments → ℕ
  arguments_nodes (arguments ps ns) = positional_nodes ps + named_nodes ns

  pub positional_nodes : Inlines → ℕ
  positional_nodes no_inlines = 0
  positional_nodes (argument x xs) = inline_nodes x + positional_nodes xs

  pub named_nodes : Nameds → ℕ
  named_nodes no_nameds = 0
  named_nodes (named_argument name x ns) = inline_nodes x + named_nodes ns

abbrev mutual
  -- the most nodes of a placeable's expression in a pattern, its variants' patterns included
  pub largest : Pattern → ℕ
  largest nothing = 0
  largest (more (text t) rest) = largest rest
  largest (more (placeable e) rest) = max (max (nodes e) (largest_variant e)) (largest rest)

  pub largest_variant : Expression → ℕ
  largest_variant (inline x) = inline_variants x
  largest_variant (select x vs) = max (inline_variants x) (variants_largest vs)

  pub variants_largest : Variants → ℕ
  variants_largest no_variants = 0
  variants_largest (variant k p d vs) = max (largest p) (variants_largest vs)

  pub inline_variants : Inline → ℕ
  inline_variants (string t) = 0
  inline_variants (number t) = 0
  inline_variants (function f a) = arguments_variants a
  inline_variants (message m a) = 0
  inline_variants (term t a no_call) = 0
  inline_variants (term t a (call c)) = arguments_variants c
  inline_variants (variable v) = 0
  inline_variants (nested e) = largest_variant e

  pub arguments_variants : Arguments → ℕ
  arguments_variants (arguments ps ns) = max (positional_variants ps) (named_variants ns)

  pub positional_variants : Inlines → ℕ
  positional_variants no_inlines = 0
  positional_variants (argument x xs) = max (inline_variants x) (positional_variants xs)

  pub named_variants : Nameds → ℕ
  named_variants no_nameds = 0
  named_variants (named_argument name x ns) = max (inline_variants x) (named_variants ns)

abbrev pub largest_of : List Pattern → ℕ
largest_of [] = 1
largest_of (p ∷ ps) = max (largest p) (largest_of ps)

-- the most nodes of a placeable's expression in a bundle and a pattern, at least 1
abbrev pub most_nodes : {C : Type 0} → Bundle C → Pattern → ℕ
most_nodes b p = largest_of (p ∷ stored b)
