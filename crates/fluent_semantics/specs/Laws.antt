-- The laws, as statements.
use Rattle.std.specs.Prelude.{◌≡◌, ℕ, ◌+◌, ◌-◌, ◌*◌, ◌<◌, ◌≤◌, ◌↔◌, length, List, [], ◌∷◌, ◌++◌, false}
use Rattle.fluent_ast.specs.Tree.{Text, Pattern, Expression, Inline, Arguments}
use Rattle.fluent_ast.specs.Fallback.{fallback_of}
use Rattle.fluent_semantics.specs.Errors.{Error, resolver_error, too_many_placeables}
use Rattle.fluent_semantics.specs.Value.{Value}
use Rattle.fluent_semantics.specs.Arguments.{Map}
use Rattle.fluent_semantics.specs.Bundle.{Bundle, stored}
use Rattle.fluent_semantics.specs.Walk.{Environment, application, is_on, inner, go, expression, called, whole}
use Rattle.fluent_semantics.specs.Meaning.{Budget, left, limit_reached, at_most, closed, Outcome, Ran, nothing_more, within_budget, run, substituted, meaning}
use Rattle.fluent_semantics.specs.Limit.{Until, passed, stopped, up_to_limit}
use Rattle.fluent_semantics.specs.Work.{with_work, work, most_nodes}
use Rattle.fluent_semantics.specs.Result.{written_pattern, tracked, maybe_tracked, arguments_of}

-- What a pattern means within a budget is one walk over it, with the same meaning for those that it refers to.
abbrev pub RunsByItself : Type 0 → Type 0
RunsByItself C = (b : Bundle C) (env : Environment C) (path : List Pattern) (p : Pattern) (budget : Budget) → run b env path p budget ≡ whole within_budget b (run b) env path p budget

-- So it is with its counts, which stand beside the run itself.
pub record CountsByItself (C : Type 0) : Type 0 where
  pub is_the_run : (b : Bundle C) (env : Environment C) (path : List Pattern) (p : Pattern) (budget : Budget) → (work b env path p budget).ran ≡ run b env path p budget
  pub counts : (b : Bundle C) (env : Environment C) (path : List Pattern) (p : Pattern) (budget : Budget) → work b env path p budget ≡ whole with_work b (work b) env path p budget

-- So it is with what the calls of a scope give, and a formatting call: each stands beside the counts of the walk over its part.
pub record CallsByThemselves (C : Type 0) : Type 0 where
  pub reference : (b : Bundle C) (env : Environment C) (path : List Pattern) (p : Pattern) (x : Inline) (budget : Budget) → tracked b env path p x budget ≡ (go with_work b (work b) env (is_on path p) env path x p budget).ran
  pub placeable : (b : Bundle C) (env : Environment C) (path : List Pattern) (p : Pattern) (e : Expression) (budget : Budget) → maybe_tracked b env path p e budget ≡ closed false (fallback_of e) (expression with_work b (work b) env (inner path p) e budget).ran
  pub arguments : (b : Bundle C) (env : Environment C) (path : List Pattern) (a : Arguments) (budget : Budget) → arguments_of b env path a budget ≡ (called with_work b (work b) env path a budget).ran
  pub pattern : (b : Bundle C) (args : Map (Value C)) (p : Pattern) → written_pattern b args p ≡ (whole with_work b (work b) (application args) [] p (left b.limit)).ran

-- A run never adds to its budget, and a limit that was reached stays so.
pub record NeverAdds (C : Type 0) : Type 0 where
  pub less : (b : Bundle C) (env : Environment C) (path : List Pattern) (p : Pattern) (budget : Budget) → at_most (run b env path p budget).budget ≤ at_most budget
  pub stays : (b : Bundle C) (env : Environment C) (path : List Pattern) (p : Pattern) → run b env path p limit_reached ≡ nothing_more

-- From the count of stored patterns plus one on, every depth gives the same outcome by substitution.
abbrev pub IsSettled : Type 0 → Type 0
IsSettled C = (b : Bundle C) (n : ℕ) (env : Environment C) (path : List Pattern) (p : Pattern) → length (stored b) < n → substituted b n env path p ≡ meaning b env path p

-- The limit is reached exactly where more is opened than the limit.
abbrev pub ReachesLimitBeyond : Type 0 → Type 0
ReachesLimitBeyond C = (b : Bundle C) (env : Environment C) (path : List Pattern) (p : Pattern) (limit : ℕ) → (run b env path p (left limit)).budget ≡ limit_reached ↔ limit < (meaning b env path p).opened

-- Where no more is opened, text and errors are the same, and what is left is the limit less what was opened.
abbrev pub SameWithin : Type 0 → Type 0
SameWithin C = (b : Bundle C) (env : Environment C) (path : List Pattern) (p : Pattern) (limit : ℕ) → (meaning b env path p).opened ≤ limit →
    run b env path p (left limit) ≡ record { value = (meaning b env path p).value; errors = (meaning b env path p).errors; budget = left (limit - (meaning b env path p).opened) }

abbrev pub Begins : {A : Type 0} → List A → List A → Type 0
Begins {A} xs ys = (rest : List A) × (ys ≡ xs ++ rest)

-- A run reached the limit: its text is the text at the limit, some text, and what closes the opened placeables; its errors are those before the limit, the limit's, and some more.
pub record Stops (t : Text) (es : List Error) (closing : Text) (r : Ran Text) : Type 0 where
  pub budget : r.budget ≡ limit_reached
  pub more : List Error
  pub errors : r.errors ≡ es ++ resolver_error too_many_placeables ∷ more
  pub middle : Text
  pub text : r.value ≡ t ++ (middle ++ closing)

-- The text at the limit and the errors before it begin both meanings.
abbrev pub IsLimitOf : Until Text → Outcome Text → Ran Text → Type 0
IsLimitOf (passed x es n) o r = ⊥
IsLimitOf (stopped t es closing) o r = Begins t o.value × Begins es o.errors × Stops t es closing r

abbrev pub LimitBeginsBoth : Type 0 → Type 0
LimitBeginsBoth C = (b : Bundle C) (env : Environment C) (path : List Pattern) (p : Pattern) (limit : ℕ) → limit < (meaning b env path p).opened →
    IsLimitOf (up_to_limit b env path p limit) (meaning b env path p) (run b env path p (left limit))

-- A run with a limit opens at most so many placeables, its path grows by at most so many patterns, and each opened placeable enters at most as many patterns as its expression has nodes.
pub record IsBounded {C : Type 0} (b : Bundle C) (env : Environment C) (path : List Pattern) (p : Pattern) (limit : ℕ) : Type 0 where
  pub is_the_run : (work b env path p (left limit)).ran ≡ run b env path p (left limit)
  pub opened : (work b env path p (left limit)).opened ≤ limit
  pub longest : (work b env path p (left limit)).longest ≤ length (inner path p) + limit
  pub entered : (work b env path p (left limit)).entered ≤ 1 + limit * most_nodes b p

abbrev pub WorkIsBounded : Type 0 → Type 0
WorkIsBounded C = (b : Bundle C) (env : Environment C) (path : List Pattern) (p : Pattern) (limit : ℕ) → IsBounded b env path p limit
