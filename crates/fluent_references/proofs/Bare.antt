-- The parts of a tree that refer to nothing.
use Rattle.std.proofs.Common.{◌≡◌, ◌⊎◌, ℕ, List, [], Bor, inl, inr, rules, ap, ◌∙◌}
use Rattle.fluent_ast.specs.View.{element_view, inline_view}
use Rattle.fluent_ast.specs.References.{in_element, in_inline}
use Rattle.fluent_ast.specs.declared.ast.Identifier.{Identifier}
use Rattle.fluent_ast.specs.declared.ast.PatternElement as of_pattern_element
use Rattle.fluent_ast.specs.declared.ast.PatternElement.TheVariants as elements
use Rattle.fluent_ast.specs.declared.ast.InlineExpression as of_inline
use Rattle.fluent_ast.specs.declared.ast.InlineExpression.TheVariants as inlines

in_text : (t : Bor (List ℕ)) → in_element (element_view (elements.TextElement t)) ≡ []
in_text t = search (rules, of_pattern_element.the_lemmas)

pub in_text_is : (x : of_pattern_element.PatternElement) (t : Bor (List ℕ)) → x ≡ elements.TextElement t → in_element (element_view x) ≡ []
in_text_is x t h = ap (λ x. in_element (element_view x)) h ∙ in_text t

-- a literal or a variable
in_string : (t : Bor (List ℕ)) → in_inline (inline_view (inlines.StringLiteral t)) ≡ []
in_string t = search (rules, of_inline.the_lemmas)

in_number : (t : Bor (List ℕ)) → in_inline (inline_view (inlines.NumberLiteral t)) ≡ []
in_number t = search (rules, of_inline.the_lemmas)

in_variable : (id : Identifier) → in_inline (inline_view (inlines.VariableReference id)) ≡ []
in_variable id = search (rules, of_inline.the_lemmas)

pub in_literal_is : (x : of_inline.InlineExpression) → ((t : Bor (List ℕ)) × (x ≡ inlines.StringLiteral t)) ⊎ (((t : Bor (List ℕ)) × (x ≡ inlines.NumberLiteral t)) ⊎ ((id : Identifier) × (x ≡ inlines.VariableReference id))) → in_inline (inline_view x) ≡ []
in_literal_is x (inl h) = ap (λ x. in_inline (inline_view x)) h.1 ∙ in_string h.0
in_literal_is x (inr (inl h)) = ap (λ x. in_inline (inline_view x)) h.1 ∙ in_number h.0
in_literal_is x (inr (inr h)) = ap (λ x. in_inline (inline_view x)) h.1 ∙ in_variable h.0
