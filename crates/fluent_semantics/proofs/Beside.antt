-- A walk with its counts stands beside the walk within a budget, part by part.
use Rattle.std.proofs.Common.{◌≡◌, ap, refl, sym, ◌∙◌, zero, suc, List, ◌++◌, ◌∷◌, [], Bool, true, false}
use Rattle.std.specs.Bool.{⊤}
use Rattle.fluent_ast.specs.Tree.{Text, Pattern, Expression, Inline, Arguments}
use Rattle.fluent_ast.specs.Fallback.{fallback_of}
use Rattle.fluent_semantics.specs.Value.{Value}
use Rattle.fluent_semantics.specs.Arguments.{Map}
use Rattle.fluent_semantics.specs.Bundle.{Bundle}
use Rattle.fluent_semantics.specs.Walk.{Environment, application, is_on, inner, go, expression, called, whole}
use Rattle.fluent_semantics.specs.Meaning.{Budget, left, limit_reached, Ran, after_errors, after_text, closed, within_budget, unless_limit_reached, opening, run}
use Rattle.fluent_semantics.specs.Work.{Worked, work_element, work_opens, with_work, work}
use Rattle.fluent_semantics.specs.Result.{tracked, maybe_tracked, arguments_of, written_pattern}
use Rattle.fluent_semantics.proofs.Counted.{work_step}
use Rattle.fluent_semantics.proofs.Related.{Relation, expression_related, called_related}
use Rattle.fluent_semantics.proofs.Worked.{work_is_run}

abbrev Same : {A : Type 0} → (Budget → Worked A) → (Budget → Ran A) → Type 0
Same m k = (b : Budget) → (m b).ran ≡ k b

same_element : (m n : Budget → Worked Text) (k l : Budget → Ran Text) → Same m k → Same n l → Same (work_element m n) (unless_limit_reached k l)
same_element m n k l h j (left x) = ap (after_text (m (left x)).ran) (j (m (left x)).ran.budget) ∙ ap (λ r. after_text r (l r.budget)) (h (left x))
same_element m n k l h j limit_reached = refl

same_opens : (marked : Bool) (t : Text) (m : Budget → Worked Text) (k : Budget → Ran Text) → Same m k → Same (work_opens marked t m) (opening marked t k)
same_opens marked t m k h (left zero) = refl
same_opens marked t m k h (left (suc n)) = ap (closed marked t) (h (left n))
same_opens marked t m k h limit_reached = refl

same_bind : {A B : Type 0} (m : Budget → Worked A) (k : Budget → Ran A) (f : A → Budget → Worked B) (g : A → Budget → Ran B) → Same m k → ((x : A) → Same (f x) (g x)) → Same (with_work.bind m f) (within_budget.bind k g)
same_bind m k f g h j b = ap (after_errors (m b).ran.errors) (j (m b).ran.value (m b).ran.budget) ∙ ap (λ r. after_errors r.errors (g r.value r.budget)) (h b)

abbrev same : Relation with_work within_budget
same = record {
  At = Same;
  Part = Same;
  In = Same;
  Gives = Same;
  ends = λ b. refl;
  element = same_element;
  text = λ t b. refl;
  opens = same_opens;
  enters = λ i m k h. h;
  give = λ t b. refl;
  fails = λ e t i b. refl;
  bind = λ m k f g. same_bind m k f g;
  give_value = λ x b. refl;
  bind_value = λ m k f g. same_bind m k f g;
  value_of = λ m k v h. same_bind m k (λ t. with_work.give (v t)) (λ t. within_budget.give (v t)) h (λ t b. refl);
}

module _ {C : Type 0} (s : Bundle C) (env : Environment C) (path : List Pattern) where
  expression_ran : (e : Expression) (b : Budget) → (expression with_work s (work s) env path e b).ran ≡ expression within_budget s (run s) env path e b
  expression_ran e = expression_related with_work within_budget same s (work s) (run s) env (λ q. ⊤) (λ q. ⊤) (λ a id q e. tt) (λ a id q e. tt) (λ q p' u. tt) (λ env' path' q u k e. work_is_run s env' (path' ++ q ∷ []) q) path e tt

  called_ran : (a : Arguments) (b : Budget) → (called with_work s (work s) env path a b).ran ≡ called within_budget s (run s) env path a b
  called_ran a = called_related with_work within_budget same s (work s) (run s) env (λ q. ⊤) (λ q. ⊤) (λ a id q e. tt) (λ a id q e. tt) (λ q p' u. tt) (λ env' path' q u k e. work_is_run s env' (path' ++ q ∷ []) q) path a tt

  go_ran : (on : Bool) (env' : Environment C) (x : Inline) (p : Pattern) (b : Budget) → (go with_work s (work s) env on env' path x p b).ran ≡ go within_budget s (run s) env on env' path x p b
  go_ran true env' x p b = refl
  go_ran false env' x p b = work_is_run s env' (path ++ p ∷ []) p b

-- ---- what the calls of a scope give, and a formatting call

pub tracked_is : {C : Type 0} (s : Bundle C) (env : Environment C) (path : List Pattern) (p : Pattern) (x : Inline) (b : Budget) → tracked s env path p x b ≡ (go with_work s (work s) env (is_on path p) env path x p b).ran
tracked_is s env path p x b = sym (go_ran s env path (is_on path p) env x p b)

pub maybe_tracked_is : {C : Type 0} (s : Bundle C) (env : Environment C) (path : List Pattern) (p : Pattern) (e : Expression) (b : Budget) → maybe_tracked s env path p e b ≡ closed false (fallback_of e) (expression with_work s (work s) env (inner path p) e b).ran
maybe_tracked_is s env path p e b = ap (closed false (fallback_of e)) (sym (expression_ran s env (inner path p) e b))

pub arguments_of_is : {C : Type 0} (s : Bundle C) (env : Environment C) (path : List Pattern) (a : Arguments) (b : Budget) → arguments_of s env path a b ≡ (called with_work s (work s) env path a b).ran
arguments_of_is s env path a b = sym (called_ran s env path a b)

pub written_pattern_is : {C : Type 0} (s : Bundle C) (args : Map (Value C)) (p : Pattern) → written_pattern s args p ≡ (whole with_work s (work s) (application args) [] p (left s.limit)).ran
written_pattern_is s args p = sym (ap (λ (w : Worked Text). w.ran) (sym (work_step s (application args) [] p (left s.limit))) ∙ work_is_run s (application args) [] p (left s.limit))
