-- What the formatting calls give, and the calls of a scope.
use Rattle.std.specs.Prelude.{List, [], false}
use Rattle.fluent_ast.specs.Tree.{Text, Pattern, Expression, Inline, Arguments}
use Rattle.fluent_ast.specs.Fallback.{fallback_of}
use Rattle.fluent_semantics.specs.Value.{Value, text_value}
use Rattle.fluent_semantics.specs.Arguments.{Map}
use Rattle.fluent_semantics.specs.Bundle.{Bundle, unless_formatted}
use Rattle.fluent_semantics.specs.Walk.{Environment, application, is_on, inner, go, expression, called}
use Rattle.fluent_semantics.specs.Meaning.{Budget, Outcome, Ran, left, closed, within_budget, run, meaning}

-- a pattern with the arguments of the application, under an empty path and with the bundle's whole limit: its text, errors and what is left
abbrev pub written_pattern : {C : Type 0} → Bundle C → Map (Value C) → Pattern → Ran Text
written_pattern b args p = run b (application args) [] p (left b.limit)

-- the same by substitution: its text, errors and how many placeables it opens
abbrev pub substituted_pattern : {C : Type 0} → Bundle C → Map (Value C) → Pattern → Outcome Text
substituted_pattern b args p = meaning b (application args) [] p

-- the formatter's answer for a whole text, else that text
abbrev pub formatted : {C : Type 0} → Bundle C → Text → Text
formatted b t = unless_formatted (b.formatter (text_value t)) t

-- ---- the calls of a scope, from its environment, path and budget

-- a pattern that an expression refers to
abbrev pub tracked : {C : Type 0} → Bundle C → Environment C → List Pattern → Pattern → Inline → Budget → Ran Text
tracked b env path p x = go within_budget b (run b) env (is_on path p) env path x p

-- the expression of a placeable of a pattern, with its fallback where the limit is reached after it
abbrev pub maybe_tracked : {C : Type 0} → Bundle C → Environment C → List Pattern → Pattern → Expression → Budget → Ran Text
maybe_tracked b env path p e budget = closed false (fallback_of e) (expression within_budget b (run b) env (inner path p) e budget)

-- the values of arguments, positional and named
abbrev pub arguments_of : {C : Type 0} → Bundle C → Environment C → List Pattern → Arguments → Budget → Ran (List (Value C) × Map (Value C))
arguments_of b env path = called within_budget b (run b) env path
