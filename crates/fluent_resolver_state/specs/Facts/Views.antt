-- The content of each case of the tree.
use Rattle.std.proofs.Common.{◌≡◌, ◌⊎◌, inl, inr, refl, ap, sym, subst, ◌∙◌, rules, ℕ, Option, None, Some, Vec, Box, Global, List, map, ◌++◌, ◌∷◌, []}
use Rattle.std.specs.Borrow.{Bor}
use Rattle.fluent_ast.specs.Tree.{inline, select, string, number, function, message, term, variable, nested, arguments, text, placeable, pattern_of, variants_of, inlines_of, nameds_of}
use Rattle.fluent_ast.specs.Fallback.{fallback, fallback_of, dotted}
use Rattle.fluent_ast.specs.View.{key_view, expression_view, inline_view, pattern_view, arguments_view, attribute_of, call_view, element_view, variant_view, named_view}
use Rattle.fluent_ast.specs.declared.ast.CallArguments as of_call
use Rattle.fluent_ast.specs.declared.ast.Expression as of_expression
use Rattle.fluent_ast.specs.declared.ast.Expression.TheOpen as level
use Rattle.fluent_ast.specs.declared.ast.Expression.TheVariants as expressions
use Rattle.fluent_ast.specs.declared.ast.NamedArgument as of_named
use Rattle.fluent_resolver_state.specs.Written.{IsWritten}
use Rattle.fluent_ast.specs.declared.ast.Identifier.{Identifier}
use Rattle.fluent_ast.specs.declared.ast.InlineExpression as of_inline
use Rattle.fluent_ast.specs.declared.ast.InlineExpression.TheVariants as inlines
use Rattle.fluent_ast.specs.declared.ast.Pattern as of_pattern
use Rattle.fluent_ast.specs.declared.ast.PatternElement as of_element
use Rattle.fluent_ast.specs.declared.ast.PatternElement.TheVariants as parts
use Rattle.fluent_ast.specs.declared.ast.Variant as of_variant
use Rattle.fluent_ast.specs.declared.ast.Variant.{Variant}

pub view_pattern : (p : of_pattern.Pattern) → pattern_view p ≡ pattern_of (map element_view p.elements.items)
view_pattern p = search (rules, of_pattern.the_lemmas)

view_text : (t : Bor (List ℕ)) → element_view (parts.TextElement t) ≡ text t.now
view_text t = search (rules, of_element.the_lemmas)

pub view_text_in : (x : of_element.PatternElement) (t : Bor (List ℕ)) → x ≡ parts.TextElement t → element_view x ≡ text t.now
view_text_in x t h = ap element_view h ∙ view_text t

view_placeable : (e : of_expression.Expression) → element_view (parts.Placeable e) ≡ placeable (expression_view e)
view_placeable e = search (rules, of_element.the_lemmas)

pub view_placeable_in : (x : of_element.PatternElement) (e : of_expression.Expression) → x ≡ parts.Placeable e → element_view x ≡ placeable (expression_view e)
view_placeable_in x e h = ap element_view h ∙ view_placeable e

-- FALLBACKS

string_fallback : (t : Bor (List ℕ)) → fallback (inline_view (inlines.StringLiteral t)) ≡ 34 ∷ (t.now ++ 34 ∷ [])
string_fallback t = search (rules, of_inline.the_lemmas)

pub string_fallback_in : (x : of_inline.InlineExpression) (t : Bor (List ℕ)) → x ≡ inlines.StringLiteral t → 34 ∷ (t.now ++ 34 ∷ []) ≡ fallback (inline_view x)
string_fallback_in x t h = sym (ap (λ x. fallback (inline_view x)) h ∙ string_fallback t)

number_fallback : (t : Bor (List ℕ)) → fallback (inline_view (inlines.NumberLiteral t)) ≡ t.now
number_fallback t = search (rules, of_inline.the_lemmas)

pub number_fallback_in : (x : of_inline.InlineExpression) (t : Bor (List ℕ)) → x ≡ inlines.NumberLiteral t → t.now ≡ fallback (inline_view x)
number_fallback_in x t h = sym (ap (λ x. fallback (inline_view x)) h ∙ number_fallback t)

message_fallback : (id : Identifier) (a : Option Identifier) → fallback (inline_view (inlines.MessageReference id a)) ≡ dotted id.name.now (attribute_of a)
message_fallback id a = search (rules, of_inline.the_lemmas)

pub message_fallback_in : (x : of_inline.InlineExpression) (id : Identifier) (a : Option Identifier) → x ≡ inlines.MessageReference id a → dotted id.name.now (attribute_of a) ≡ fallback (inline_view x)
message_fallback_in x id a h = sym (ap (λ x. fallback (inline_view x)) h ∙ message_fallback id a)

function_fallback : (id : Identifier) (a : Box of_call.CallArguments Global) → fallback (inline_view (inlines.FunctionReference id a)) ≡ id.name.now ++ 40 ∷ 41 ∷ []
function_fallback id a = search (rules, of_inline.the_lemmas)

pub function_fallback_in : (x : of_inline.InlineExpression) (id : Identifier) (a : Box of_call.CallArguments Global) → x ≡ inlines.FunctionReference id a → id.name.now ++ 40 ∷ 41 ∷ [] ≡ fallback (inline_view x)
function_fallback_in x id a h = sym (ap (λ x. fallback (inline_view x)) h ∙ function_fallback id a)

term_fallback : (id : Identifier) (a : Option Identifier) (c : Option (Box of_call.CallArguments Global)) → fallback (inline_view (inlines.TermReference id a c)) ≡ 45 ∷ dotted id.name.now (attribute_of a)
term_fallback id a c = search (rules, of_inline.the_lemmas)

pub term_fallback_in : (x : of_inline.InlineExpression) (id : Identifier) (a : Option Identifier) (c : Option (Box of_call.CallArguments Global)) → x ≡ inlines.TermReference id a c → 45 ∷ dotted id.name.now (attribute_of a) ≡ fallback (inline_view x)
term_fallback_in x id a c h = sym (ap (λ x. fallback (inline_view x)) h ∙ term_fallback id a c)

variable_fallback : (id : Identifier) → fallback (inline_view (inlines.VariableReference id)) ≡ 36 ∷ id.name.now
variable_fallback id = search (rules, of_inline.the_lemmas)

pub variable_fallback_in : (x : of_inline.InlineExpression) (id : Identifier) → x ≡ inlines.VariableReference id → 36 ∷ id.name.now ≡ fallback (inline_view x)
variable_fallback_in x id h = sym (ap (λ x. fallback (inline_view x)) h ∙ variable_fallback id)

-- EXPRESSIONS

view_inline : (x : of_inline.InlineExpression) → expression_view (expressions.Inline x) ≡ inline (inline_view x)
view_inline x = search (rules, of_expression.the_lemmas)

pub view_in : (e : of_expression.Expression) (x : of_inline.InlineExpression) → e ≡ expressions.Inline x → expression_view e ≡ inline (inline_view x)
view_in e x h = ap expression_view h ∙ view_inline x

view_select : (x : of_inline.InlineExpression) (vs : Vec Variant Global) → expression_view (expressions.Select x vs) ≡ select (inline_view x) (variants_of (map variant_view vs.items))
view_select x vs = search (rules, of_expression.the_lemmas)

pub view_select_in : (e : of_expression.Expression) (x : of_inline.InlineExpression) (vs : Vec Variant Global) → e ≡ expressions.Select x vs → expression_view e ≡ select (inline_view x) (variants_of (map variant_view vs.items))
view_select_in e x vs h = ap expression_view h ∙ view_select x vs

-- INLINE EXPRESSIONS

view_string : (t : Bor (List ℕ)) → inline_view (inlines.StringLiteral t) ≡ string t.now
view_string t = search (rules, of_inline.the_lemmas)

pub view_string_in : (x : of_inline.InlineExpression) (t : Bor (List ℕ)) → x ≡ inlines.StringLiteral t → inline_view x ≡ string t.now
view_string_in x t h = ap inline_view h ∙ view_string t

view_number : (t : Bor (List ℕ)) → inline_view (inlines.NumberLiteral t) ≡ number t.now
view_number t = search (rules, of_inline.the_lemmas)

pub view_number_in : (x : of_inline.InlineExpression) (t : Bor (List ℕ)) → x ≡ inlines.NumberLiteral t → inline_view x ≡ number t.now
view_number_in x t h = ap inline_view h ∙ view_number t

view_function : (id : Identifier) (b : Box of_call.CallArguments Global) → inline_view (inlines.FunctionReference id b) ≡ function id.name.now (arguments_view b.value)
view_function id b = search (rules, of_inline.the_lemmas)

pub view_function_in : (x : of_inline.InlineExpression) (id : Identifier) (b : Box of_call.CallArguments Global) → x ≡ inlines.FunctionReference id b → inline_view x ≡ function id.name.now (arguments_view b.value)
view_function_in x id b h = ap inline_view h ∙ view_function id b

view_message : (id : Identifier) (a : Option Identifier) → inline_view (inlines.MessageReference id a) ≡ message id.name.now (attribute_of a)
view_message id a = search (rules, of_inline.the_lemmas)

pub view_message_in : (x : of_inline.InlineExpression) (id : Identifier) (a : Option Identifier) → x ≡ inlines.MessageReference id a → inline_view x ≡ message id.name.now (attribute_of a)
view_message_in x id a h = ap inline_view h ∙ view_message id a

view_term : (id : Identifier) (a : Option Identifier) (c : Option (Box of_call.CallArguments Global)) → inline_view (inlines.TermReference id a c) ≡ term id.name.now (attribute_of a) (call_view c)
view_term id a None = search (rules, of_inline.the_lemmas)
view_term id a (Some b) = search (rules, of_inline.the_lemmas)

pub view_term_in : (x : of_inline.InlineExpression) (id : Identifier) (a : Option Identifier) (c : Option (Box of_call.CallArguments Global)) → x ≡ inlines.TermReference id a c → inline_view x ≡ term id.name.now (attribute_of a) (call_view c)
view_term_in x id a c h = ap inline_view h ∙ view_term id a c

view_variable : (id : Identifier) → inline_view (inlines.VariableReference id) ≡ variable id.name.now
view_variable id = search (rules, of_inline.the_lemmas)

pub view_variable_in : (x : of_inline.InlineExpression) (id : Identifier) → x ≡ inlines.VariableReference id → inline_view x ≡ variable id.name.now
view_variable_in x id h = ap inline_view h ∙ view_variable id

view_nested : (b : Box of_expression.Expression Global) → inline_view (inlines.Placeable b) ≡ nested (expression_view b.value)
view_nested b = search (rules, of_inline.the_lemmas)

pub view_nested_in : (x : of_inline.InlineExpression) (b : Box of_expression.Expression Global) → x ≡ inlines.Placeable b → inline_view x ≡ nested (expression_view b.value)
view_nested_in x b h = ap inline_view h ∙ view_nested b

shown_inline : (i : of_inline.InlineExpression) → fallback_of (expression_view (expressions.Inline i)) ≡ fallback (inline_view i)
shown_inline i = search (rules, of_expression.the_lemmas)

shown_select : (i : of_inline.InlineExpression) (vs : Vec Variant Global) → fallback_of (expression_view (expressions.Select i vs)) ≡ fallback (inline_view i)
shown_select i vs = search (rules, of_expression.the_lemmas)

shown_in : (e : of_expression.Expression) (i : of_inline.InlineExpression) → (e ≡ expressions.Inline i) ⊎ ((vs : Vec Variant Global) × (e ≡ expressions.Select i vs)) → fallback_of (expression_view e) ≡ fallback (inline_view i)
shown_in e i (inl h) = ap (λ e. fallback_of (expression_view e)) h ∙ shown_inline i
shown_in e i (inr h) = ap (λ e. fallback_of (expression_view e)) h.1 ∙ shown_select i h.0

-- a nested placeable has the fallback of what it shows
pub nested_fallback_in : (x : of_inline.InlineExpression) (b : Box of_expression.Expression Global) (e : of_expression.Expression) (i : of_inline.InlineExpression) → x ≡ inlines.Placeable b → e ≡ b.value
    → (e ≡ expressions.Inline i) ⊎ ((vs : Vec Variant Global) × (e ≡ expressions.Select i vs)) → fallback (inline_view i) ≡ fallback (inline_view x)
nested_fallback_in x b e i is same shown =
    sym (ap fallback (view_nested_in x b is) ∙ sym (ap (λ e. fallback_of (expression_view e)) same) ∙ shown_in e i shown)

-- ARGUMENTS AND VARIANTS

pub view_arguments : (a : of_call.CallArguments) → arguments_view a ≡ arguments (inlines_of (map inline_view (of_call.out-CallArguments a).positional.items)) (nameds_of (map named_view (of_call.out-CallArguments a).named.items))
view_arguments a = search (rules, of_call.the_lemmas, of_call.fold_out-CallArguments)

pub view_named : (n : of_named.NamedArgument) → named_view n ≡ (n.name.name.now, inline_view n.value)
view_named n = search (rules, of_named.the_lemmas)

pub view_variant : (v : Variant) → variant_view v ≡ (key_view v.key, pattern_view v.value, v.default)
view_variant v = search (rules, of_variant.the_lemmas)

-- WHAT HAS ITS TEXT AS ITS VALUE

abbrev Level : Type 0
Level = level.InlineExpression-F of_expression.Expression of_inline.InlineExpression of_element.PatternElement of_call.CallArguments of_named.NamedArgument of_pattern.Pattern Variant

-- all but a literal, a function and a variable
pub view_written : (x : of_inline.InlineExpression) → ((t : Bor (List ℕ)) → x ≡ inlines.StringLiteral t → ⊥) → ((t : Bor (List ℕ)) → x ≡ inlines.NumberLiteral t → ⊥) → ((id : Identifier) (a : Box of_call.CallArguments Global) → x ≡ inlines.FunctionReference id a → ⊥) → ((id : Identifier) → x ≡ inlines.VariableReference id → ⊥) → IsWritten (inline_view x)
view_written x s n f v = by_case (of_inline.out-InlineExpression x) refl
  where
    made : (o : Level) → of_inline.out-InlineExpression x ≡ o → x ≡ of_inline.roll-InlineExpression o
    made o h = sym (of_inline.roll-out-InlineExpression x) ∙ ap of_inline.roll-InlineExpression h

    by_case : (o : Level) → of_inline.out-InlineExpression x ≡ o → IsWritten (inline_view x)
    by_case (level.StringLiteral t) h = absurd (s t (made _ h ∙ inlines.rolls-StringLiteral t))
    by_case (level.NumberLiteral t) h = absurd (n t (made _ h ∙ inlines.rolls-NumberLiteral t))
    by_case (level.FunctionReference id a) h = absurd (f id a (made _ h ∙ inlines.rolls-FunctionReference id a))
    by_case (level.MessageReference id a) h = subst IsWritten (sym (view_message_in x id a (made _ h ∙ inlines.rolls-MessageReference id a))) tt
    by_case (level.TermReference id a c) h = subst IsWritten (sym (view_term_in x id a c (made _ h ∙ inlines.rolls-TermReference id a c))) tt
    by_case (level.VariableReference id) h = absurd (v id (made _ h ∙ inlines.rolls-VariableReference id))
    by_case (level.InlineExpression::Placeable b) h = subst IsWritten (sym (view_nested_in x b (made _ h ∙ inlines.rolls-Placeable b))) tt
