-- The work of a run is bounded by its limit.
use Rattle.std.proofs.Common.{◌≡◌, ℕ, zero, suc, ◌+◌, ◌*◌, ◌≤◌, List, [], ◌∷◌, ◌++◌, length, length-append, Bool, true, false, Option, Some, None, refl, ap, ◌∙◌, arith, inl, inr}
use Rattle.std.proofs.Math.Nat.{add-mul, mul-le-mul_right}
use Rattle.std.specs.Bool.{⊤}
use Rattle.fluent_ast.specs.Tree.{Text, Pattern, nothing, more, text, placeable, Expression, inline, select, Variants, no_variants, variant, Inline, string, number, function, message, term, variable, nested, no_call, call, Arguments, arguments, Inlines, no_inlines, argument, Nameds, no_nameds, named_argument}
use Rattle.fluent_semantics.specs.Errors.{ResolverError, lost, no_value, cyclic, Reference, reference_of}
use Rattle.fluent_semantics.specs.Value as values
use Rattle.fluent_semantics.specs.Value.{Value, text_value, number_value, custom_value, error_value, try_number}
use Rattle.fluent_semantics.specs.Arguments.{Map, get, set_all}
use Rattle.fluent_semantics.specs.Bundle.{Bundle, Function, Target, unknown, without_value, found, message_target, term_target, function_found, goes_to, stored}
use Rattle.fluent_semantics.specs.Walk.{Environment, application, local, variables, is_on, inner, has_one, loses_as, go, follow, missing, variable_text, variable_value, answer_text, function_text, function_value, as_value, elements, expression, matched, default_of, written, resolved, called, positional, named, deep}
use Rattle.fluent_semantics.specs.Meaning.{Budget, left, limit_reached, at_most, Ran, after_errors, after_text, closed, at_limit, nothing_more, within_budget, unless_limit_reached, opening, ran, run}
use Rattle.fluent_semantics.specs.Work.{Worked, counting, work_element, work_opens, with_work, worked, work, nodes, inline_nodes, arguments_nodes, positional_nodes, named_nodes, largest, largest_variant, variants_largest, inline_variants, arguments_variants, positional_variants, named_variants, largest_of, most_nodes}
use Rattle.fluent_semantics.proofs.Related.{Relation, elements_related}
use Rattle.fluent_semantics.proofs.Budgets.{deep_limit_reached}
use Rattle.fluent_semantics.proofs.Deeper.{Stands, message_is_stored, term_is_stored}

-- ---- the counted run is the run

abbrev Same : {A : Type 0} → (Budget → Worked A) → (Budget → Ran A) → Type 0
Same m k = (b : Budget) → (m b).ran ≡ k b

same_element : (m n : Budget → Worked Text) (k l : Budget → Ran Text) → Same m k → Same n l → Same (work_element m n) (unless_limit_reached k l)
same_element m n k l h j (left x) = ap (after_text (m (left x)).ran) (j (m (left x)).ran.budget) ∙ ap (λ r. after_text r (l r.budget)) (h (left x))
same_element m n k l h j limit_reached = refl

same_opens : (marked : Bool) (t : Text) (m : Budget → Worked Text) (k : Budget → Ran Text) → Same m k → Same (work_opens marked t m) (opening marked t k)
same_opens marked t m k h (left zero) = refl
same_opens marked t m k h (left (suc n)) = ap (closed marked t) (h (left n))
same_opens marked t m k h limit_reached = refl

same_bind : {A B : Type 0} (m : Budget → Worked A) (k : Budget → Ran A) (f : A → Budget → Worked B) (g : A → Budget → Ran B) → Same m k → ((x : A) → Same (f x) (g x)) → Same (with_work.bind m f) (within_budget.bind k g)
same_bind m k f g h j b = ap (after_errors (m b).ran.errors) (j (m b).ran.value (m b).ran.budget) ∙ ap (λ r. after_errors r.errors (g r.value r.budget)) (h b)

abbrev counts : Relation with_work within_budget
counts = record {
  At = Same;
  Part = Same;
  In = Same;
  Gives = Same;
  ends = λ b. refl;
  element = same_element;
  text = λ t b. refl;
  opens = same_opens;
  enters = λ i m k h. h;
  give = λ t b. refl;
  fails = λ e t i b. refl;
  bind = λ m k f g. same_bind m k f g;
  give_value = λ x b. refl;
  bind_value = λ m k f g. same_bind m k f g;
  value_of = λ m k v h. same_bind m k (λ t. with_work.give (v t)) (λ t. within_budget.give (v t)) h (λ t b. refl);
}

module _ {C : Type 0} (b : Bundle C) where
  deep_counts : (g : ℕ) (env : Environment C) (path : List Pattern) (p : Pattern) → Same (deep with_work b g env path p) (deep within_budget b g env path p)
  deep_counts zero env path p budget = refl
  deep_counts (suc g) env path p budget =
      elements_related with_work within_budget counts b (deep with_work b g) (deep within_budget b g) env (λ q. ⊤) (λ q. ⊤) (λ a id q e. tt) (λ a id q e. tt) (λ q p' u. tt) (λ env' path' q u k e. deep_counts g env' _ q) (inner path p) (has_one p) p tt budget

  pub work_is_run : (env : Environment C) (path : List Pattern) (p : Pattern) (budget : Budget) → (work b env path p budget).ran ≡ run b env path p budget
  unfolding ran worked
  work_is_run env path p (left n) = deep_counts (suc n) env path p (left n)
  work_is_run env path p limit_reached = deep_counts 1 env path p limit_reached ∙ deep_limit_reached b 1 env path p

-- ---- bounds

-- With E nodes at most in a placeable: what is opened is taken from the budget, the path grows by one at most for each, and at most k patterns are entered outside of what is opened.
pub record Bounds {A : Type 0} (E L k : ℕ) (b : Budget) (w : Worked A) : Type 0 where
  pub opened : w.opened + at_most w.ran.budget ≤ at_most b
  pub longest : w.longest ≤ L + at_most b
  pub entered : w.entered ≤ k + w.opened * E

abbrev pub Bounded : {A : Type 0} → ℕ → ℕ → ℕ → (Budget → Worked A) → Type 0
Bounded E L k m = (b : Budget) → Bounds E L k b (m b)

idle : {A : Type 0} (E L k : ℕ) (b : Budget) (r : Ran A) → at_most r.budget ≤ at_most b → Bounds E L k b (counting 0 0 0 r)
idle E L k b r h = record { opened = omega (arith, h); longest = omega arith; entered = omega arith }

weaker : {A : Type 0} (E L j k : ℕ) (m : Budget → Worked A) → j ≤ k → Bounded E L j m → Bounded E L k m
weaker E L j k m h w b = record { opened = (w b).opened; longest = (w b).longest; entered = omega (arith, h, (w b).entered) }

bounded_bind : {A B : Type 0} (E L j k : ℕ) (m : Budget → Worked A) (f : A → Budget → Worked B) → Bounded E L j m → ((x : A) → Bounded E L k (f x)) → Bounded E L (j + k) (with_work.bind m f)
bounded_bind E L j k m f h g b =
    let here = h b in
    let then = g (m b).ran.value (m b).ran.budget in
    record {
      opened = omega (arith, here.opened, then.opened);
      longest = omega (arith, here.opened, here.longest, then.longest);
      entered = omega (arith, here.entered, then.entered, add-mul (m b).opened (f (m b).ran.value (m b).ran.budget).opened E);
    }

bounded_element : (E L : ℕ) (m n : Budget → Worked Text) → Bounded E L 0 m → Bounded E L 0 n → Bounded E L 0 (work_element m n)
bounded_element E L m n h j (left x) =
    let here = h (left x) in
    let then = j (m (left x)).ran.budget in
    record {
      opened = omega (arith, here.opened, then.opened);
      longest = omega (arith, here.opened, here.longest, then.longest);
      entered = omega (arith, here.entered, then.entered, add-mul (m (left x)).opened (n (m (left x)).ran.budget).opened E);
    }
bounded_element E L m n h j limit_reached = idle E L 0 limit_reached nothing_more (omega arith)

bounded_opens : (E L k : ℕ) (marked : Bool) (t : Text) (m : Budget → Worked Text) → k ≤ E → Bounded E (L + 1) k m → Bounded E L 0 (work_opens marked t m)
bounded_opens E L k marked t m h j (left zero) = idle E L 0 (left 0) at_limit (omega arith)
bounded_opens E L k marked t m h j (left (suc n)) =
    let here = j (left n) in
    record {
      opened = omega (arith, here.opened);
      longest = omega (arith, here.longest);
      entered = omega (arith, h, here.entered, add-mul (m (left n)).opened 1 E);
    }
bounded_opens E L k marked t m h j limit_reached = idle E L 0 limit_reached nothing_more (omega arith)

bounded_enters : (E L k : ℕ) (m : Budget → Worked Text) → Bounded E L k m → Bounded E L (k + 1) (with_work.enters L m)
bounded_enters E L k m h b = record { opened = (h b).opened; longest = omega (arith, (h b).longest); entered = omega (arith, (h b).entered) }

deeper : {A : Type 0} (E L M k : ℕ) (m : Budget → Worked A) → L ≤ M → Bounded E L k m → Bounded E M k m
deeper E L M k m h w b = record { opened = (w b).opened; longest = omega (arith, h, (w b).longest); entered = (w b).entered }

inner_length : (path : List Pattern) (p : Pattern) → length (inner path p) ≤ length path + 1
inner_length [] p = omega arith
inner_length (q ∷ path) p = omega arith

module _ {C : Type 0} (b : Bundle C) (E : ℕ)
    (f : Environment C → List Pattern → Pattern → Budget → Worked Text) (env : Environment C)
    (below : (env' : Environment C) (path : List Pattern) (p : Pattern) → Stands p (stored b) → Bounded E (length path + 1) 1 (f env' (path ++ p ∷ []) p)) where
  gives : {A : Type 0} (L k : ℕ) (x : A) → Bounded E L k (with_work.give x)
  gives L k x budget = idle E L k budget _ (omega arith)

  failing : (L k : ℕ) (e : ResolverError) (t : Text) → Bounded E L k (with_work.fails e t)
  failing L k e t budget = idle E L k budget _ (omega arith)

  loses_as_bounded : (L k : ℕ) (r : Option Reference) (t : Text) → Bounded E L k (loses_as with_work b f env r t)
  loses_as_bounded L k None t = gives L k t
  loses_as_bounded L k (Some r) t = failing L k (lost r) t

  go_bounded : (on : Bool) (env' : Environment C) (path : List Pattern) (x : Inline) (p : Pattern) → Stands p (stored b) → Bounded E (length path + 1) 1 (go with_work b f env on env' path x p)
  go_bounded true env' path x p k = failing _ 1 cyclic _
  go_bounded false env' path x p k = below env' path p k

  follow_bounded : (env' : Environment C) (path : List Pattern) (x : Inline) (id : Text) (t : Target) → ((p : Pattern) → t ≡ found p → Stands p (stored b)) → Bounded E (length path + 1) 1 (follow with_work b f env env' path x id t)
  follow_bounded env' path x id unknown k = loses_as_bounded _ 1 (reference_of x) _
  follow_bounded env' path x id without_value k = failing _ 1 (no_value id) _
  follow_bounded env' path x id (found p) k = go_bounded (is_on path p) env' path x p (k p refl)

  missing_bounded : (L k : ℕ) (env' : Environment C) (x : Inline) → Bounded E L k (missing with_work b f env env' x)
  missing_bounded L k (application m) x = loses_as_bounded L k (reference_of x) _
  missing_bounded L k (local m) x = gives L k _

  variable_text_bounded : (L k : ℕ) (x : Inline) (v : Option (Value C)) → Bounded E L k (variable_text with_work b f env x v)
  variable_text_bounded L k x None = missing_bounded L k env x
  variable_text_bounded L k x (Some v) = gives L k _

  variable_value_bounded : (L : ℕ) (x : Inline) (v : Option (Value C)) → Bounded E L 1 (variable_value with_work b f env x v)
  variable_value_bounded L x None = bounded_bind E L 1 0 _ _ (missing_bounded L 1 env x) (λ t. gives L 0 error_value)
  variable_value_bounded L x (Some v) = gives L 1 _

  answer_text_bounded : (L k : ℕ) (x : Inline) (v : Value C) → Bounded E L k (answer_text with_work b f env x v)
  answer_text_bounded L k x (text_value v) = gives L k _
  answer_text_bounded L k x (number_value v) = gives L k _
  answer_text_bounded L k x (custom_value v) = gives L k _
  answer_text_bounded L k x values.no_value = gives L k _
  answer_text_bounded L k x error_value = gives L k _

  function_text_bounded : (L k : ℕ) (x : Inline) (h : Option (Function C)) (vs : List (Value C)) (m : Map (Value C)) → Bounded E L k (function_text with_work b f env x h vs m)
  function_text_bounded L k x None vs m = loses_as_bounded L k (reference_of x) _
  function_text_bounded L k x (Some h) vs m = answer_text_bounded L k x (h vs m)

  as_value_bounded : (L k : ℕ) (m : Budget → Worked Text) → Bounded E L k m → Bounded E L k (as_value with_work b f env m)
  as_value_bounded L k m h = weaker E L (k + 0) k (as_value with_work b f env m) (omega arith) (bounded_bind E L k 0 m _ h (λ t. gives L 0 (text_value t)))

  entering : (path : List Pattern) (p : Pattern) (m : Budget → Worked Text) → Bounded E (length (inner path p)) 0 m → Bounded E (length path + 1) 1 (with_work.enters (length (inner path p)) m)
  entering path p m h = deeper E _ _ 1 _ (inner_length path p) (bounded_enters E (length (inner path p)) 0 m h)

  named_only : (L k : ℕ) (m : Budget → Worked (List (Value C) × Map (Value C))) → Bounded E L k m → Bounded E L k (with_work.bind m (λ c. with_work.give c.1))
  named_only L k m h = weaker E L (k + 0) k (with_work.bind m (λ c. with_work.give c.1)) (omega arith) (bounded_bind E L k 0 _ _ h (λ c. gives L 0 c.1))

  mutual
    unfolding elements

    elements_bounded : (path : List Pattern) (one : Bool) (p : Pattern) → largest p ≤ E → Bounded E (length path) 0 (elements with_work b f env path one p)
    elements_bounded path one nothing h = gives _ 0 []
    elements_bounded path one (more (text t) rest) h = bounded_element E _ _ _ (gives _ 0 _) (elements_bounded path one rest h)
    elements_bounded path one (more (placeable e) rest) h =
        bounded_element E _ _ _ (bounded_opens E (length path) (nodes e) _ _ _ (omega (arith, h)) (expression_bounded path e (omega (arith, h)))) (elements_bounded path one rest (omega (arith, h)))

    expression_bounded : (path : List Pattern) (e : Expression) → largest_variant e ≤ E → Bounded E (length path + 1) (nodes e) (expression with_work b f env path e)
    expression_bounded path (inline x) h = written_bounded path x h
    expression_bounded path (select x vs) h =
        weaker E _ (inline_nodes x + 1) (1 + inline_nodes x) _ (omega arith)
        (bounded_bind E (length path + 1) (inline_nodes x) 1 _ _ (resolved_bounded path x (omega (arith, h))) (λ v. matched_bounded path v _ vs (omega (arith, h)) (default_bounded path vs (omega (arith, h)))))

    matched_bounded : (path : List Pattern) (v : Value C) (m : Budget → Worked Text) (vs : Variants) → variants_largest vs ≤ E → Bounded E (length path + 1) 1 m → Bounded E (length path + 1) 1 (matched with_work b f env path v m vs)
    matched_bounded path v m no_variants h j = j
    matched_bounded path v m (variant k p d vs) h j =
        elim (goes_to b v k) as (λ y. Bounded E (length path + 1) 1
        (elim y [ true ↦ with_work.enters (length (inner path p)) (elements with_work b f env (inner path p) (has_one p) p) | false ↦ matched with_work b f env path v m vs ])) [
          | true ↦ entering path p _ (elements_bounded (inner path p) (has_one p) p (omega (arith, h)))
          | false ↦ matched_bounded path v m vs (omega (arith, h)) j
        ]

    default_bounded : (path : List Pattern) (vs : Variants) → variants_largest vs ≤ E → Bounded E (length path + 1) 1 (default_of with_work b f env path vs)
    default_bounded path no_variants h = failing _ 1 _ _
    default_bounded path (variant k p true vs) h = entering path p _ (elements_bounded (inner path p) (has_one p) p (omega (arith, h)))
    default_bounded path (variant k p false vs) h = default_bounded path vs (omega (arith, h))

    written_bounded : (path : List Pattern) (x : Inline) → inline_variants x ≤ E → Bounded E (length path + 1) (inline_nodes x) (written with_work b f env path x)
    written_bounded path (string t) h = gives _ 1 _
    written_bounded path (number t) h = gives _ 1 _
    written_bounded path (function k a) h =
        weaker E _ (arguments_nodes a + 1) (1 + arguments_nodes a) _ (omega arith)
        (bounded_bind E (length path + 1) (arguments_nodes a) 1 _ _ (called_bounded path a h) (λ c. function_text_bounded _ 1 (function k a) (function_found (get k b.ids)) c.0 c.1))
    written_bounded path (message m a) h = follow_bounded env path (message m a) m (message_target (get m b.ids) a) (message_is_stored b a m)
    written_bounded path (term t a no_call) h =
        bounded_bind E (length path + 1) 0 1 _ _ (gives _ 0 _) (λ m. follow_bounded (local m) path (term t a no_call) t (term_target (get t b.ids) a) (term_is_stored b a t))
    written_bounded path (term t a (call c)) h =
        weaker E _ (arguments_nodes c + 1) (1 + arguments_nodes c) _ (omega arith)
        (bounded_bind E (length path + 1) (arguments_nodes c) 1 _ _ (named_only (length path + 1) (arguments_nodes c) _ (called_bounded path c h)) (λ m. follow_bounded (local m) path (term t a (call c)) t (term_target (get t b.ids) a) (term_is_stored b a t)))
    written_bounded path (variable v) h = variable_text_bounded _ 1 (variable v) (get v (variables env))
    written_bounded path (nested e) h = weaker E _ (nodes e) (1 + nodes e) _ (omega arith) (expression_bounded path e h)

    resolved_bounded : (path : List Pattern) (x : Inline) → inline_variants x ≤ E → Bounded E (length path + 1) (inline_nodes x) (resolved with_work b f env path x)
    resolved_bounded path (string t) h = gives _ 1 _
    resolved_bounded path (number t) h = gives _ 1 _
    resolved_bounded path (function k a) h =
        weaker E _ (arguments_nodes a + 1) (1 + arguments_nodes a) _ (omega arith)
        (bounded_bind E (length path + 1) (arguments_nodes a) 1 _ _ (called_bounded path a h) (λ c. gives _ 1 (function_value with_work b f env (function_found (get k b.ids)) c.0 c.1)))
    resolved_bounded path (message m a) h = as_value_bounded _ 1 _ (follow_bounded env path (message m a) m (message_target (get m b.ids) a) (message_is_stored b a m))
    resolved_bounded path (term t a no_call) h =
        as_value_bounded _ 1 _ (bounded_bind E (length path + 1) 0 1 _ _ (gives _ 0 _) (λ m. follow_bounded (local m) path (term t a no_call) t (term_target (get t b.ids) a) (term_is_stored b a t)))
    resolved_bounded path (term t a (call c)) h =
        as_value_bounded _ (1 + arguments_nodes c) _
        (weaker E _ (arguments_nodes c + 1) (1 + arguments_nodes c) _ (omega arith)
        (bounded_bind E (length path + 1) (arguments_nodes c) 1 _ _ (named_only (length path + 1) (arguments_nodes c) _ (called_bounded path c h)) (λ m. follow_bounded (local m) path (term t a (call c)) t (term_target (get t b.ids) a) (term_is_stored b a t))))
    resolved_bounded path (variable v) h = variable_value_bounded _ (variable v) (get v (variables env))
    resolved_bounded path (nested e) h = as_value_bounded _ (1 + nodes e) _ (weaker E _ (nodes e) (1 + nodes e) _ (omega arith) (expression_bounded path e h))

    called_bounded : (path : List Pattern) (a : Arguments) → arguments_variants a ≤ E → Bounded E (length path + 1) (arguments_nodes a) (called with_work b f env path a)
    called_bounded path (arguments ps ns) h =
        weaker E _ (positional_nodes ps + (named_nodes ns + 0)) (positional_nodes ps + named_nodes ns) _ (omega arith)
        (bounded_bind E (length path + 1) (positional_nodes ps) (named_nodes ns + 0) _ _ (positional_bounded path ps (omega (arith, h))) (λ vs. bounded_bind E (length path + 1) (named_nodes ns) 0 _ _ (named_bounded path ns (omega (arith, h))) (λ m. gives _ 0 (vs, set_all m []))))

    positional_bounded : (path : List Pattern) (xs : Inlines) → positional_variants xs ≤ E → Bounded E (length path + 1) (positional_nodes xs) (positional with_work b f env path xs)
    positional_bounded path no_inlines h = gives _ 0 _
    positional_bounded path (argument x xs) h =
        weaker E _ (inline_nodes x + (positional_nodes xs + 0)) (inline_nodes x + positional_nodes xs) _ (omega arith)
        (bounded_bind E (length path + 1) (inline_nodes x) (positional_nodes xs + 0) _ _ (resolved_bounded path x (omega (arith, h))) (λ v. bounded_bind E (length path + 1) (positional_nodes xs) 0 _ _ (positional_bounded path xs (omega (arith, h))) (λ vs. gives _ 0 (v ∷ vs))))

    named_bounded : (path : List Pattern) (ns : Nameds) → named_variants ns ≤ E → Bounded E (length path + 1) (named_nodes ns) (named with_work b f env path ns)
    named_bounded path no_nameds h = gives _ 0 _
    named_bounded path (named_argument n x ns) h =
        weaker E _ (inline_nodes x + (named_nodes ns + 0)) (inline_nodes x + named_nodes ns) _ (omega arith)
        (bounded_bind E (length path + 1) (inline_nodes x) (named_nodes ns + 0) _ _ (resolved_bounded path x (omega (arith, h))) (λ v. bounded_bind E (length path + 1) (named_nodes ns) 0 _ _ (named_bounded path ns (omega (arith, h))) (λ m. gives _ 0 ((n, v) ∷ m))))

stands_small : (q : Pattern) (ps : List Pattern) → Stands q ps → largest q ≤ largest_of ps
stands_small q [] h = absurd h
stands_small q (p ∷ ps) (inl h) = omega (arith, ap largest h)
stands_small q (p ∷ ps) (inr h) = omega (arith, stands_small q ps h)

inner_longer : (path : List Pattern) (q : Pattern) → length (inner (path ++ q ∷ []) q) ≤ length path + 1
inner_longer [] q = omega arith
inner_longer (r ∷ path) q = omega (arith, length-append path (q ∷ []))

module _ {C : Type 0} (b : Bundle C) (E : ℕ) (small : largest_of (stored b) ≤ E) where
  deep_bounded : (g : ℕ) (env : Environment C) (path : List Pattern) (p : Pattern) → largest p ≤ E → Bounded E (length (inner path p)) 1 (deep with_work b g env path p)
  deep_bounded zero env path p h budget = idle E _ 1 budget _ (omega arith)
  deep_bounded (suc g) env path p h budget =
      weaker E (length (inner path p)) (0 + 1) 1 _ (omega arith) (bounded_enters E (length (inner path p)) 0 _
      (elements_bounded b E (deep with_work b g) env (λ env' path' q k. deeper E _ _ 1 _ (inner_longer path' q) (deep_bounded g env' (path' ++ q ∷ []) q (omega (arith, small, stands_small q (stored b) k)))) (inner path p) (has_one p) p h)) budget

module _ {C : Type 0} (b : Bundle C) (env : Environment C) (path : List Pattern) (p : Pattern) (limit : ℕ) where
  pub work_bounded : Bounds (most_nodes b p) (length (inner path p)) 1 (left limit) (work b env path p (left limit))
  unfolding worked
  work_bounded = deep_bounded b (most_nodes b p) (omega arith) (suc limit) env path p (omega arith) (left limit)

  pub opened_at_most : (work b env path p (left limit)).opened ≤ limit
  opened_at_most = omega (arith, work_bounded.opened)

  pub entered_at_most : (work b env path p (left limit)).entered ≤ 1 + limit * most_nodes b p
  entered_at_most = omega (arith, work_bounded.entered, mul-le-mul_right (most_nodes b p) opened_at_most)
