-- A walk over texts in balance writes texts in balance.
use Rattle.std.proofs.Common.{◌≡◌, ℕ, ℤ, zero, suc, List, [], ◌∷◌, ◌++◌, length, Bool, true, false, Option, Some, None, if◌then◌else◌, refl, sym, subst, ◌∙◌, arith, append_assoc, inl, inr}
use Rattle.std.specs.Bool.{⊤}
use Rattle.fluent_ast.specs.Tree.{Text, Pattern, nothing, more, text, placeable, Expression, inline, select, Variants, no_variants, variant, Inline, string, number, function, message, term, variable, nested, Call, no_call, call, arguments, Nameds, no_nameds, named_argument, Inlines, no_inlines, argument}
use Rattle.fluent_ast.specs.Fallback.{fallback, fallback_of}
use Rattle.fluent_semantics.specs.Number.{is_text, read_number}
use Rattle.fluent_semantics.specs.Errors.{Reference, reference_of}
use Rattle.fluent_semantics.specs.Value as values
use Rattle.fluent_semantics.specs.Value.{Value, text_value, number_value, custom_value, error_value, value_text, read_value, try_number}
use Rattle.fluent_semantics.specs.Arguments.{Map, get, set_all, number_function}
use Rattle.fluent_semantics.specs.Bundle.{Bundle, Entry, a_message, a_term, a_function, number_builtin, Function, Target, unknown, without_value, found, message_target, term_target, function_found, unless_formatted, shown, goes_to, stored}
use Rattle.fluent_semantics.specs.Walk.{Environment, application, local, variables, is_on, inner, has_one, is_marked, loses_as, go, follow, missing, variable_text, variable_value, answer_text, function_text, function_value, elements, part, expression, matched, default_of, written, resolved, local_of, called, positional, named, deep}
use Rattle.fluent_semantics.specs.Meaning.{Budget, left, limit_reached, Ran, ending, first_mark, last_mark, within_budget, opening, unless_limit_reached, ran}
use Rattle.fluent_semantics.specs.Result.{written_pattern}
use Rattle.fluent_semantics.specs.Users.{last_of}
use Rattle.fluent_semantics.specs.Marks.{IsQuietList, QuietPositional, marks, IsBalanced, IsQuiet, QuietExpression, QuietVariants, QuietInline, QuietCall, QuietNamed, AreQuiet, IsQuietMap, BringsNoMarks}
use Rattle.fluent_semantics.proofs.Marked.{joined, empty, number_balanced, braced, dotted_balanced, quoted, with_byte, called_balanced, marked_balanced}
use Rattle.fluent_semantics.proofs.Maps.{last_stands}
use Rattle.fluent_semantics.proofs.Deeper.{Stands, message_is_stored, term_is_stored}

-- what a walk writes, from any budget
abbrev Writes : (Budget → Ran Text) → Type 0
Writes m = (x : Budget) → IsBalanced (m x).value

abbrev Holds : {A : Type 0} → (A → Type 0) → (Budget → Ran A) → Type 0
Holds P m = (x : Budget) → P (m x).value

mutual
  fallback_balanced : (change : Text → Text) (x : Inline) → QuietInline change x → IsBalanced (fallback x)
  fallback_balanced change (string t) h = quoted t h.0
  fallback_balanced change (number t) h = h
  fallback_balanced change (function f a) h = called_balanced f h.0
  fallback_balanced change (message m a) h = dotted_balanced m a h.0 h.1
  fallback_balanced change (term t a c) h = with_byte 45 _ (omega arith) (dotted_balanced t a h.0 h.1)
  fallback_balanced change (variable v) h = with_byte 36 v (omega arith) h
  fallback_balanced change (nested e) h = fallback_of_balanced change e h

  fallback_of_balanced : (change : Text → Text) (e : Expression) → QuietExpression change e → IsBalanced (fallback_of e)
  fallback_of_balanced change (inline x) h = fallback_balanced change x h
  fallback_of_balanced change (select x vs) h = fallback_balanced change x h.0

stands_quiet : (change : Text → Text) (p : Pattern) (ps : List Pattern) → AreQuiet change ps → Stands p ps → IsQuiet change p
stands_quiet change p [] h s = absurd s
stands_quiet change p (q ∷ ps) h (inl e) = subst (IsQuiet change) (sym e) h.0
stands_quiet change p (q ∷ ps) h (inr s) = stands_quiet change p ps h.1 s

opens_balanced : (marked : Bool) (t : Text) (m : Budget → Ran Text) → IsBalanced t → Writes m → Writes (opening marked t m)
opens_balanced marked t m h j (left zero) = empty
opens_balanced marked t m h j (left (suc n)) =
    subst (λ v. IsBalanced (first_mark marked ++ v)) (append_assoc (m (left n)).value (ending t (m (left n)).budget) (last_mark marked))
    (marked_balanced marked ((m (left n)).value ++ ending t (m (left n)).budget) (joined _ _ (j (left n)) (end (m (left n)).budget)))
  where
    end : (x : Budget) → IsBalanced (ending t x)
    end (left k) = empty
    end limit_reached = braced t h
opens_balanced marked t m h j limit_reached = empty

element_balanced : (m n : Budget → Ran Text) → Writes m → Writes n → Writes (unless_limit_reached m n)
element_balanced m n h j (left x) = joined _ _ (h (left x)) (j (m (left x)).budget)
element_balanced m n h j limit_reached = empty

module _ {C : Type 0} (b : Bundle C) (quiet : BringsNoMarks b) where
  abbrev IsQuietValue : Value C → Type 0
  IsQuietValue v = IsBalanced (value_text b.custom v)

  abbrev AreQuietValues : List (Text × Value C) → Type 0
  AreQuietValues [] = ⊤
  AreQuietValues (e ∷ es) = IsQuietValue e.1 × AreQuietValues es

  last_quiet : (name : Text) (es : List (Text × Value C)) (otherwise : Option (Value C)) → AreQuietValues es → ((v : Value C) → otherwise ≡ Some v → IsQuietValue v) → (v : Value C) → last_of name es otherwise ≡ Some v → IsQuietValue v
  last_quiet name [] otherwise h j v e = j v e
  last_quiet name (x ∷ es) otherwise h j v e = last_quiet name es _ h.1 (by (is_text name x.0)) v e
    where
      by : (t : Bool) (w : Value C) → (if t then Some x.1 else otherwise) ≡ Some w → IsQuietValue w
      by true w i = subst IsQuietValue (let same : x.1 ≡ w = cc in same) h.0
      by false w i = j w i

  map_quiet : (es : List (Text × Value C)) → AreQuietValues es → IsQuietMap b (set_all es [])
  map_quiet es h name v e = last_quiet name es None h (λ w i. absurd cc) v (sym (last_stands name es []) ∙ e)

  shown_quiet : (v : Value C) → IsQuietValue v → IsBalanced (shown b v)
  shown_quiet v h = by (b.formatter v) refl
    where
      by : (o : Option Text) → b.formatter v ≡ o → IsBalanced (unless_formatted o (value_text b.custom v))
      by None e = h
      by (Some t) e = quiet.formatter v t h e

  read_quiet : (t : Text) → IsBalanced t → (o : Option (ℤ × Option ℕ)) → IsQuietValue (read_value t o)
  read_quiet t h None = h
  read_quiet t h (Some r) = number_balanced r.0 r.1

  number_quiet : (vs : List (Value C)) (m : Map (Value C)) → IsQuietValue (number_function vs m)
  number_quiet [] m = empty
  number_quiet (number_value n ∷ vs) m = number_balanced n.value _
  number_quiet (text_value t ∷ vs) m = empty
  number_quiet (custom_value x ∷ vs) m = empty
  number_quiet (values.no_value ∷ vs) m = empty
  number_quiet (error_value ∷ vs) m = empty

  function_quiet : (id : Text) (e : Option (Entry C)) → get id b.ids ≡ e → (f : Function C) → function_found e ≡ Some f → (vs : List (Value C)) (m : Map (Value C)) → IsQuietList b vs → IsQuietMap b m → IsQuietValue (f vs m)
  function_quiet id None e f h vs m hv hm = absurd cc
  function_quiet id (Some (a_message v as')) e f h vs m hv hm = absurd cc
  function_quiet id (Some (a_term p as')) e f h vs m hv hm = absurd cc
  function_quiet id (Some (a_function g)) e f h vs m hv hm = subst (λ k. IsQuietValue (k vs m)) (let same : g ≡ f = cc in same) (quiet.functions id g e vs m hv hm)
  function_quiet id (Some number_builtin) e f h vs m hv hm = subst (λ k. IsQuietValue (k vs m)) (let same : number_function ≡ f = cc in same) (number_quiet vs m)

  module _ (f : Environment C → List Pattern → Pattern → Budget → Ran Text) (env : Environment C) (known : IsQuietMap b (variables env))
      (below : (env' : Environment C) (path : List Pattern) (p : Pattern) → IsQuietMap b (variables env') → IsQuiet b.transform p → Writes (f env' path p)) where
    loses_quiet : (r : Option Reference) (t : Text) → IsBalanced t → Writes (loses_as within_budget b f env r t)
    loses_quiet None t h x = h
    loses_quiet (Some r) t h x = h

    go_quiet : (on : Bool) (env' : Environment C) (path : List Pattern) (x : Inline) (p : Pattern) → IsQuietMap b (variables env') → IsBalanced (fallback x) → IsQuiet b.transform p → Writes (go within_budget b f env on env' path x p)
    go_quiet true env' path x p k h j budget = braced (fallback x) h
    go_quiet false env' path x p k h j budget = below env' (path ++ p ∷ []) p k j budget

    follow_quiet : (env' : Environment C) (path : List Pattern) (x : Inline) (id : Text) (t : Target) → IsQuietMap b (variables env') → IsBalanced (fallback x) → IsBalanced id → ((p : Pattern) → t ≡ found p → Stands p (stored b)) → Writes (follow within_budget b f env env' path x id t)
    follow_quiet env' path x id unknown k h i s budget = loses_quiet (reference_of x) _ (braced (fallback x) h) budget
    follow_quiet env' path x id without_value k h i s budget = braced id i
    follow_quiet env' path x id (found p) k h i s budget = go_quiet (is_on path p) env' path x p k h (stands_quiet b.transform p (stored b) quiet.patterns (s p refl)) budget

    missing_quiet : (env' : Environment C) (x : Inline) → IsBalanced (fallback x) → Writes (missing within_budget b f env env' x)
    missing_quiet (application m) x h budget = loses_quiet (reference_of x) _ (braced (fallback x) h) budget
    missing_quiet (local m) x h budget = braced (fallback x) h

    variable_text_quiet : (x : Inline) (o : Option (Value C)) → IsBalanced (fallback x) → ((v : Value C) → o ≡ Some v → IsQuietValue v) → Writes (variable_text within_budget b f env x o)
    variable_text_quiet x None h k budget = missing_quiet env x h budget
    variable_text_quiet x (Some v) h k budget = shown_quiet v (k v refl)

    variable_value_quiet : (x : Inline) (o : Option (Value C)) → ((v : Value C) → o ≡ Some v → IsQuietValue v) → Holds IsQuietValue (variable_value within_budget b f env x o)
    variable_value_quiet x None k budget = empty
    variable_value_quiet x (Some v) k budget = k v refl

    answer_quiet : (x : Inline) (v : Value C) → IsBalanced (fallback x) → IsQuietValue v → Writes (answer_text within_budget b f env x v)
    answer_quiet x (text_value t) h k budget = shown_quiet (text_value t) k
    answer_quiet x (number_value n) h k budget = shown_quiet (number_value n) k
    answer_quiet x (custom_value y) h k budget = shown_quiet (custom_value y) k
    answer_quiet x values.no_value h k budget = shown_quiet values.no_value k
    answer_quiet x error_value h k budget = h

    function_text_quiet : (x : Inline) (o : Option (Function C)) → IsBalanced (fallback x) → (vs : List (Value C)) (m : Map (Value C)) → ((g : Function C) → o ≡ Some g → IsQuietValue (g vs m)) → Writes (function_text within_budget b f env x o vs m)
    function_text_quiet x None h vs m k budget = loses_quiet (reference_of x) _ (braced (fallback x) h) budget
    function_text_quiet x (Some g) h vs m k budget = answer_quiet x (g vs m) h (k g refl) budget

    function_value_quiet : (o : Option (Function C)) → (vs : List (Value C)) (m : Map (Value C)) → ((g : Function C) → o ≡ Some g → IsQuietValue (g vs m)) → IsQuietValue (function_value within_budget b f env o vs m)
    function_value_quiet None vs m k = empty
    function_value_quiet (Some g) vs m k = k g refl

    mutual
      unfolding elements

      elements_quiet : (path : List Pattern) (one : Bool) (p : Pattern) → IsQuiet b.transform p → Writes (elements within_budget b f env path one p)
      elements_quiet path one nothing h = λ budget. empty
      elements_quiet path one (more (text t) rest) h = element_balanced (part within_budget b f env path one (text t)) (elements within_budget b f env path one rest) (λ budget. h.0) (elements_quiet path one rest h.1)
      elements_quiet path one (more (placeable e) rest) h = element_balanced (part within_budget b f env path one (placeable e)) (elements within_budget b f env path one rest) (opens_balanced (is_marked b.isolates one e) (fallback_of e) (expression within_budget b f env path e) (fallback_of_balanced b.transform e h.0) (expression_quiet path e h.0)) (elements_quiet path one rest h.1)

      expression_quiet : (path : List Pattern) (e : Expression) → QuietExpression b.transform e → Writes (expression within_budget b f env path e)
      expression_quiet path (inline x) h = written_quiet path x h
      expression_quiet path (select x vs) h = λ budget. let r = resolved within_budget b f env path x budget in matched_quiet path r.value (default_of within_budget b f env path vs) vs h.1 (default_quiet path vs h.1) r.budget

      matched_quiet : (path : List Pattern) (v : Value C) (m : Budget → Ran Text) (vs : Variants) → QuietVariants b.transform vs → Writes m → Writes (matched within_budget b f env path v m vs)
      matched_quiet path v m no_variants h j = j
      matched_quiet path v m (variant k p d vs) h j =
          elim (goes_to b v k) as (λ y. Writes (elim y [ true ↦ within_budget.enters (length (inner path p)) (elements within_budget b f env (inner path p) (has_one p) p) | false ↦ matched within_budget b f env path v m vs ])) [
            | true ↦ elements_quiet (inner path p) (has_one p) p h.0
            | false ↦ matched_quiet path v m vs h.1 j
          ]

      default_quiet : (path : List Pattern) (vs : Variants) → QuietVariants b.transform vs → Writes (default_of within_budget b f env path vs)
      default_quiet path no_variants h = λ budget. empty
      default_quiet path (variant k p true vs) h = elements_quiet (inner path p) (has_one p) p h.0
      default_quiet path (variant k p false vs) h = default_quiet path vs h.1

      written_quiet : (path : List Pattern) (x : Inline) → QuietInline b.transform x → Writes (written within_budget b f env path x)
      written_quiet path (string t) h = λ budget. h.1
      written_quiet path (number t) h = λ budget. shown_quiet (try_number t) (read_quiet t h (read_number t))
      written_quiet path (function k (arguments ps ns)) h = λ budget. let c = called within_budget b f env path (arguments ps ns) budget in
          let vs = positional within_budget b f env path ps budget in
          let hv = positional_quiet path ps h.1.0 budget in
          let hm = map_quiet (named within_budget b f env path ns vs.budget).value (named_quiet path ns h.1.1 vs.budget) in
          function_text_quiet (function k (arguments ps ns)) (function_found (get k b.ids)) (fallback_balanced b.transform (function k (arguments ps ns)) h) c.value.0 c.value.1 (λ g e. function_quiet k (get k b.ids) refl g e c.value.0 c.value.1 hv hm) c.budget
      written_quiet path (message m a) h = follow_quiet env path (message m a) m (message_target (get m b.ids) a) known (fallback_balanced b.transform (message m a) h) h.0 (message_is_stored b a m)
      written_quiet path (term t a c) h = λ budget. let l = local_of within_budget b f env path c budget in
          follow_quiet (local l.value) path (term t a c) t (term_target (get t b.ids) a) (local_quiet path c h.2 budget) (fallback_balanced b.transform (term t a c) h) h.0 (term_is_stored b a t) l.budget
      written_quiet path (variable v) h = variable_text_quiet (variable v) (get v (variables env)) (fallback_balanced b.transform (variable v) h) (λ w e. known v w e)
      written_quiet path (nested e) h = expression_quiet path e h

      resolved_quiet : (path : List Pattern) (x : Inline) → QuietInline b.transform x → Holds IsQuietValue (resolved within_budget b f env path x)
      resolved_quiet path (string t) h = λ budget. h.1
      resolved_quiet path (number t) h = λ budget. read_quiet t h (read_number t)
      resolved_quiet path (function k (arguments ps ns)) h = λ budget. let c = called within_budget b f env path (arguments ps ns) budget in
          let vs = positional within_budget b f env path ps budget in
          let hv = positional_quiet path ps h.1.0 budget in
          let hm = map_quiet (named within_budget b f env path ns vs.budget).value (named_quiet path ns h.1.1 vs.budget) in
          function_value_quiet (function_found (get k b.ids)) c.value.0 c.value.1 (λ g e. function_quiet k (get k b.ids) refl g e c.value.0 c.value.1 hv hm)
      resolved_quiet path (message m a) h = follow_quiet env path (message m a) m (message_target (get m b.ids) a) known (fallback_balanced b.transform (message m a) h) h.0 (message_is_stored b a m)
      resolved_quiet path (term t a c) h = λ budget. let l = local_of within_budget b f env path c budget in
          follow_quiet (local l.value) path (term t a c) t (term_target (get t b.ids) a) (local_quiet path c h.2 budget) (fallback_balanced b.transform (term t a c) h) h.0 (term_is_stored b a t) l.budget
      resolved_quiet path (variable v) h = variable_value_quiet (variable v) (get v (variables env)) (λ w e. known v w e)
      resolved_quiet path (nested e) h = expression_quiet path e h

      local_quiet : (path : List Pattern) (c : Call) → QuietCall b.transform c → Holds (IsQuietMap b) (local_of within_budget b f env path c)
      local_quiet path no_call h = λ budget name v e. absurd cc
      local_quiet path (call (arguments ps ns)) h = λ budget. let vs = positional within_budget b f env path ps budget in map_quiet (named within_budget b f env path ns vs.budget).value (named_quiet path ns h.1 vs.budget)

      positional_quiet : (path : List Pattern) (xs : Inlines) → QuietPositional b.transform xs → Holds (IsQuietList b) (positional within_budget b f env path xs)
      positional_quiet path no_inlines h = λ budget. tt
      positional_quiet path (argument x xs) h = λ budget. (resolved_quiet path x h.0 budget, positional_quiet path xs h.1 (resolved within_budget b f env path x budget).budget)

      named_quiet : (path : List Pattern) (ns : Nameds) → QuietNamed b.transform ns → Holds AreQuietValues (named within_budget b f env path ns)
      named_quiet path no_nameds h = λ budget. tt
      named_quiet path (named_argument n x ns) h = λ budget. (resolved_quiet path x h.0 budget, named_quiet path ns h.1 (resolved within_budget b f env path x budget).budget)

  deep_quiet : (g : ℕ) (env : Environment C) (path : List Pattern) (p : Pattern) → IsQuietMap b (variables env) → IsQuiet b.transform p → Writes (deep within_budget b g env path p)
  deep_quiet zero env path p k h budget = empty
  deep_quiet (suc g) env path p k h budget = elements_quiet (deep within_budget b g) env k (λ env' path' q k' h'. deep_quiet g env' path' q k' h') (inner path p) (has_one p) p h budget

  pub written_balanced : (args : Map (Value C)) (p : Pattern) → IsQuietMap b args → IsQuiet b.transform p → IsBalanced (written_pattern b args p).value
  unfolding ran
  written_balanced args p k h = deep_quiet (suc b.limit) (application args) [] p k h (left b.limit)

pub marks_balanced : {C : Type 0} (b : Bundle C) (args : Map (Value C)) (p : Pattern) → BringsNoMarks b → IsQuietMap b args → IsQuiet b.transform p → marks 0xa8 (written_pattern b args p).value ≡ marks 0xa9 (written_pattern b args p).value
marks_balanced b args p quiet k h = (written_balanced b quiet args p k h).balanced
