use Rattle.std.proofs.Common.{rules, ap, ◌∙◌, ◌∷◌, [], ◌++◌, append-nil}
use Rattle.fluent_values.specs.Facts.Took.{took_on, took_stops, took_same}
use Rattle.fluent_resolver_state.specs.Facts.Views.{string_fallback_in, number_fallback_in, message_fallback_in, function_fallback_in, term_fallback_in, variable_fallback_in, nested_fallback_in}
use Rattle.fluent_resolver_state.proofs.fallback.+put_fallback.Goals as goal

pub returns-in_err-put_text-in-StringLiteral-clause-took : goal.returns-in_err-put_text-in-StringLiteral-clause-took
returns-in_err-put_text-in-StringLiteral-clause-took g t c = took_same (string_fallback_in c.args.expression.now c.in-StringLiteral.value c.in-StringLiteral.is) (took_stops (c.in-StringLiteral.value.now ++ 34 ∷ []) c.in_err-put_text-in-StringLiteral.was (search rules) c.put_text.ensures.took)

pub returns-in_err-put_text-in-StringLiteral-2-clause-took : goal.returns-in_err-put_text-in-StringLiteral-2-clause-took
returns-in_err-put_text-in-StringLiteral-2-clause-took g t c = took_same (string_fallback_in c.args.expression.now c.in-StringLiteral.value c.in-StringLiteral.is) (took_on c.in_ok-put_text-in-StringLiteral.was c.put_text.ensures.took (took_stops (34 ∷ []) c.in_err-put_text-in-StringLiteral-2.was (search rules) c.put_text-in-StringLiteral.ensures.took))

pub returns-in_ok-put_text-in-StringLiteral-2-clause-took : goal.returns-in_ok-put_text-in-StringLiteral-2-clause-took
returns-in_ok-put_text-in-StringLiteral-2-clause-took g t c = took_same (string_fallback_in c.args.expression.now c.in-StringLiteral.value c.in-StringLiteral.is) (took_on c.in_ok-put_text-in-StringLiteral.was c.put_text.ensures.took (took_on c.in_ok-put_text-in-StringLiteral-2.was c.put_text-in-StringLiteral.ensures.took c.put_text-in-StringLiteral-2.ensures.took))

pub returns-in-NumberLiteral-clause-took : goal.returns-in-NumberLiteral-clause-took
returns-in-NumberLiteral-clause-took g t c = took_same (number_fallback_in c.args.expression.now c.in-NumberLiteral.value c.in-NumberLiteral.is) c.put_text-in-NumberLiteral.ensures.took

pub returns-in-FunctionReference-clause-took : goal.returns-in-FunctionReference-clause-took
returns-in-FunctionReference-clause-took g t c = took_same (function_fallback_in c.args.expression.now c.in-FunctionReference.id c.in-FunctionReference.arguments c.in-FunctionReference.is) c.put_three.ensures.took

pub returns-in-MessageReference-clause-took : goal.returns-in-MessageReference-clause-took
returns-in-MessageReference-clause-took g t c = took_same (append-nil _ ∙ message_fallback_in c.args.expression.now c.in-MessageReference.id c.in-MessageReference.attribute c.in-MessageReference.is) c.put_dotted_in.ensures.took

pub returns-in-TermReference-clause-took : goal.returns-in-TermReference-clause-took
returns-in-TermReference-clause-took g t c = took_same (ap (λ x. 45 ∷ x) (append-nil _) ∙ term_fallback_in c.args.expression.now c.in-TermReference.id c.in-TermReference.attribute c.in-TermReference.arguments c.in-TermReference.is) c.put_dotted_in-in-TermReference.ensures.took

pub returns-in-VariableReference-clause-took : goal.returns-in-VariableReference-clause-took
returns-in-VariableReference-clause-took g t c = took_same (ap (λ x. 36 ∷ x) (append-nil _) ∙ variable_fallback_in c.args.expression.now c.in-VariableReference.id c.in-VariableReference.is) c.put_three-in-VariableReference.ensures.took

pub returns-in-Inline-clause-took : goal.returns-in-Inline-clause-took
returns-in-Inline-clause-took g t c = took_same (nested_fallback_in c.args.expression.now c.in-Placeable.expression c.deref.result.now c.in-Inline.shown c.in-Placeable.is c.deref.ensures c.in-Inline.is) c.put_fallback.ensures.took
