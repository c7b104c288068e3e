-- A walk sees of a bundle what its look-ups find and what its settings answer.
use Rattle.std.proofs.Common.{◌≡◌, ℕ, zero, suc, List, [], ◌∷◌, ◌++◌, length, Bool, true, false, refl, ◌∙◌}
use Rattle.fluent_ast.specs.Tree.{Text, Pattern, nothing, more, Element, text, placeable, Expression, inline, select, Variants, no_variants, variant, Inline, string, number, function, message, term, variable, nested, Call, no_call, call, Arguments, arguments, Inlines, no_inlines, argument, Nameds, no_nameds, named_argument}
use Rattle.fluent_ast.specs.Fallback.{fallback_of}
use Rattle.fluent_semantics.specs.Value.{Value, text_value}
use Rattle.fluent_semantics.specs.Arguments.{Map, get, set_all}
use Rattle.fluent_semantics.specs.Bundle.{Bundle, Entry, Target, unknown, without_value, found, message_target, term_target, function_found, goes_to}
use Rattle.fluent_semantics.specs.Walk.{Environment, application, local, is_on, inner, has_one, is_marked, Steps, go, follow, function_text, function_value, elements, part, expression, matched, default_of, written, resolved, local_of, called, positional, named, deep}
use Rattle.fluent_semantics.specs.Meaning.{left, within_budget, ran, depth_of}
use Rattle.fluent_semantics.specs.Result.{written_pattern}
use Rattle.fluent_semantics.specs.Users.{AnswerAlike}

-- ---- other ids, of which each look-up finds the same

module _ {C : Type 0} (S : Steps) (b : Bundle C) (ids : Map (Entry C)) (same : (id : Text) → get id b.ids ≡ get id ids) where
  abbrev other : Bundle C
  other = record b { ids = ids }

  module _ (f g : Environment C → List Pattern → Pattern → S.M Text) (below : (env : Environment C) (path : List Pattern) (p : Pattern) → f env path p ≡ g env path p) (env : Environment C) where
    go_alike : (on : Bool) (env' : Environment C) (path : List Pattern) (x : Inline) (p : Pattern) → go S b f env on env' path x p ≡ go S other g env on env' path x p
    go_alike true env' path x p = refl
    go_alike false env' path x p = below env' (path ++ p ∷ []) p

    follow_alike : (env' : Environment C) (path : List Pattern) (x : Inline) (id : Text) (t : Target) → follow S b f env env' path x id t ≡ follow S other g env env' path x id t
    follow_alike env' path x id unknown = refl
    follow_alike env' path x id without_value = refl
    follow_alike env' path x id (found p) = go_alike (is_on path p) env' path x p

    mutual
      unfolding elements

      elements_alike : (path : List Pattern) (one : Bool) (p : Pattern) → elements S b f env path one p ≡ elements S other g env path one p
      elements_alike path one nothing = refl
      elements_alike path one (more e rest) = λ i. S.element (part_alike path one e i) (elements_alike path one rest i)

      part_alike : (path : List Pattern) (one : Bool) (e : Element) → part S b f env path one e ≡ part S other g env path one e
      part_alike path one (text t) = refl
      part_alike path one (placeable e) = λ i. S.opens (is_marked b.isolates one e) (fallback_of e) (expression_alike path e i)

      expression_alike : (path : List Pattern) (e : Expression) → expression S b f env path e ≡ expression S other g env path e
      expression_alike path (inline x) = written_alike path x
      expression_alike path (select x vs) = λ i. S.bind (resolved_alike path x i) (λ v. matched_alike path v _ _ vs (default_alike path vs) i)

      matched_alike : (path : List Pattern) (v : Value C) (m n : S.M Text) (vs : Variants) → m ≡ n → matched S b f env path v m vs ≡ matched S other g env path v n vs
      matched_alike path v m n no_variants h = h
      matched_alike path v m n (variant k p d vs) h = λ i.
          elim (goes_to b v k) [
            | true ↦ S.enters (length (inner path p)) (elements_alike (inner path p) (has_one p) p i)
            | false ↦ matched_alike path v m n vs h i
          ]

      default_alike : (path : List Pattern) (vs : Variants) → default_of S b f env path vs ≡ default_of S other g env path vs
      default_alike path no_variants = refl
      default_alike path (variant k p true vs) = λ i. S.enters (length (inner path p)) (elements_alike (inner path p) (has_one p) p i)
      default_alike path (variant k p false vs) = default_alike path vs

      written_alike : (path : List Pattern) (x : Inline) → written S b f env path x ≡ written S other g env path x
      written_alike path (string t) = refl
      written_alike path (number t) = refl
      written_alike path (function k a) = λ i. S.bind (called_alike path a i) (λ d. function_text S b f env (function k a) (function_found (same k i)) d.0 d.1)
      written_alike path (message m a) = λ i. follow_alike env path (message m a) m (message_target (same m i) a) i
      written_alike path (term t a d) = λ i. S.bind (local_alike path d i) (λ m. follow_alike (local m) path (term t a d) t (term_target (same t i) a) i)
      written_alike path (variable v) = refl
      written_alike path (nested e) = expression_alike path e

      resolved_alike : (path : List Pattern) (x : Inline) → resolved S b f env path x ≡ resolved S other g env path x
      resolved_alike path (string t) = refl
      resolved_alike path (number t) = refl
      resolved_alike path (function k a) = λ i. S.bind (called_alike path a i) (λ d. S.give (function_value S b f env (function_found (same k i)) d.0 d.1))
      resolved_alike path (message m a) = λ i. S.bind (follow_alike env path (message m a) m (message_target (same m i) a) i) (λ t. S.give (text_value t))
      resolved_alike path (term t a d) = λ i. S.bind (S.bind (local_alike path d i) (λ m. follow_alike (local m) path (term t a d) t (term_target (same t i) a) i)) (λ u. S.give (text_value u))
      resolved_alike path (variable v) = refl
      resolved_alike path (nested e) = λ i. S.bind (expression_alike path e i) (λ t. S.give (text_value t))

      local_alike : (path : List Pattern) (d : Call) → local_of S b f env path d ≡ local_of S other g env path d
      local_alike path no_call = refl
      local_alike path (call a) = λ i. S.bind (called_alike path a i) (λ d. S.give d.1)

      called_alike : (path : List Pattern) (a : Arguments) → called S b f env path a ≡ called S other g env path a
      called_alike path (arguments ps ns) = λ i. S.bind (positional_alike path ps i) (λ vs. S.bind (named_alike path ns i) (λ m. S.give (vs, set_all m [])))

      positional_alike : (path : List Pattern) (xs : Inlines) → positional S b f env path xs ≡ positional S other g env path xs
      positional_alike path no_inlines = refl
      positional_alike path (argument x xs) = λ i. S.bind (resolved_alike path x i) (λ v. S.bind (positional_alike path xs i) (λ vs. S.give (v ∷ vs)))

      named_alike : (path : List Pattern) (ns : Nameds) → named S b f env path ns ≡ named S other g env path ns
      named_alike path no_nameds = refl
      named_alike path (named_argument name x ns) = λ i. S.bind (resolved_alike path x i) (λ v. S.bind (named_alike path ns i) (λ m. S.give ((name, v) ∷ m)))

  deep_alike : (n : ℕ) (env : Environment C) (path : List Pattern) (p : Pattern) → deep S b n env path p ≡ deep S other n env path p
  deep_alike zero env path p = refl
  deep_alike (suc n) env path p = λ i. S.enters (length (inner path p)) (elements_alike (deep S b n) (deep S other n) (deep_alike n) env (inner path p) (has_one p) p i)

-- ---- other settings, which answer the same

module _ {C : Type 0} where
  other_ids : (b : Bundle C) (ids : Map (Entry C)) → ((id : Text) → get id b.ids ≡ get id ids) → (args : Map (Value C)) (p : Pattern) → written_pattern b args p ≡ written_pattern (record b { ids = ids }) args p
  unfolding ran
  other_ids b ids same args p i = deep_alike within_budget b ids same (depth_of (left b.limit)) (application args) [] p i (left b.limit)

  other_settings : (b c : Bundle C) → AnswerAlike b c → (args : Map (Value C)) (p : Pattern) → written_pattern (record b { ids = c.ids }) args p ≡ written_pattern c args p
  unfolding ran elements
  other_settings b c alike args p i =
      written_pattern record {
        ids = c.ids;
        isolates = alike.isolates i;
        transform = λ t. alike.transform t i;
        formatter = λ v. alike.formatter v i;
        plurals = λ kind o. alike.plurals kind o i;
        custom = record { text = λ x. alike.text x i; same = b.custom.same };
        limit = alike.limit i;
      } args p

  pub alike_same : (b c : Bundle C) (args : Map (Value C)) (p : Pattern) → AnswerAlike b c → written_pattern b args p ≡ written_pattern c args p
  alike_same b c args p alike = other_ids b c.ids alike.ids args p ∙ other_settings b c alike args p
