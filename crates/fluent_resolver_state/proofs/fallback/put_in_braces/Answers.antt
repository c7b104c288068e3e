use Rattle.std.proofs.Common.{rules, ap, sym, ◌∙◌, ◌∷◌, [], ◌++◌, append_assoc}
use Rattle.fluent_ast.specs.Fallback.{fallback, in_braces}
use Rattle.fluent_ast.specs.View.{inline_view}
use Rattle.fluent_values.specs.Facts.Took.{took_on, took_same, took_stops}
use Rattle.fluent_resolver_state.specs.Facts.Views.{message_fallback_in, function_fallback_in, term_fallback_in, variable_fallback_in}
use Rattle.fluent_resolver_state.proofs.fallback.put_in_braces.Goals as goal

pub returns-in-FunctionReference-clause-took : goal.returns-in-FunctionReference-clause-took
returns-in-FunctionReference-clause-took g c =
    let id = c.in-FunctionReference.id.name.now in
    took_same (ap (λ t. 123 ∷ t) (sym (append_assoc id (40 ∷ 41 ∷ []) (125 ∷ []))) ∙ ap in_braces (function_fallback_in c.args.expression.now c.in-FunctionReference.id c.in-FunctionReference.arguments c.in-FunctionReference.is)) c.put_function_in_braces.ensures.took

pub returns-in-MessageReference-clause-took : goal.returns-in-MessageReference-clause-took
returns-in-MessageReference-clause-took g c = took_same (ap in_braces (message_fallback_in c.args.expression.now c.in-MessageReference.id c.in-MessageReference.attribute c.in-MessageReference.is)) c.put_message_in_braces.ensures.took

pub returns-in-TermReference-clause-took : goal.returns-in-TermReference-clause-took
returns-in-TermReference-clause-took g c = took_same (ap in_braces (term_fallback_in c.args.expression.now c.in-TermReference.id c.in-TermReference.attribute c.in-TermReference.arguments c.in-TermReference.is)) c.put_term_in_braces.ensures.took

pub returns-in-VariableReference-clause-took : goal.returns-in-VariableReference-clause-took
returns-in-VariableReference-clause-took g c = took_same (ap in_braces (variable_fallback_in c.args.expression.now c.in-VariableReference.id c.in-VariableReference.is)) c.put_variable_in_braces.ensures.took

pub returns-in_err-put_text-in_default-clause-took : goal.returns-in_err-put_text-in_default-clause-took
returns-in_err-put_text-in_default-clause-took g c = took_stops (fallback (inline_view c.args.expression.now) ++ 125 ∷ []) c.in_err-put_text-in_default.was (search rules) c.put_text.ensures.took

pub returns-in_err-put_fallback-in_default-clause-took : goal.returns-in_err-put_fallback-in_default-clause-took
returns-in_err-put_fallback-in_default-clause-took g c = took_on c.in_ok-put_text-in_default.was c.put_text.ensures.took (took_stops (125 ∷ []) c.in_err-put_fallback-in_default.was (search rules) c.put_fallback.ensures.took)

pub returns-in_ok-put_fallback-in_default-clause-took : goal.returns-in_ok-put_fallback-in_default-clause-took
returns-in_ok-put_fallback-in_default-clause-took g c = took_on c.in_ok-put_text-in_default.was c.put_text.ensures.took (took_on c.in_ok-put_fallback-in_default.was c.put_fallback.ensures.took c.put_text-in_default.ensures.took)
