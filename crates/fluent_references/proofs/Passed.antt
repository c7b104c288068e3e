-- Parts passed over one by one.
use Rattle.std.proofs.Common.{◌≡◌, List, [], ◌++◌, Vec, Global, ap, sym, ◌∙◌}
use Rattle.fluent_ast.specs.View.{pattern_view, expression_view, inline_view, arguments_view}
use Rattle.fluent_ast.specs.References.{Reference, references, in_arguments, in_expression, in_inline, in_positional, in_named, in_variants, variants_view, inlines_view, nameds_view}
use Rattle.fluent_ast.specs.declared.ast.Pattern as of_pattern
use Rattle.fluent_ast.specs.declared.ast.Expression as of_expression
use Rattle.fluent_ast.specs.declared.ast.Expression.TheVariants as expressions
use Rattle.fluent_ast.specs.declared.ast.InlineExpression as of_inline
use Rattle.fluent_ast.specs.declared.ast.CallArguments as of_call
use Rattle.fluent_ast.specs.declared.ast.Variant as of_variant
use Rattle.fluent_references.specs.Links.{Links, past}
use Rattle.fluent_references.specs.CursorLaws.{after_append, after_last}
use Rattle.fluent_references.specs.CursorSteps.{in_elements}
use Rattle.fluent_references.specs.CursorParts.{in_pattern_is, in_select_is, in_arguments_is}

two_parts : (xs ys : List Reference) (p q r : Links) → q ≡ past xs p → r ≡ past ys q → r ≡ past (xs ++ ys) p
two_parts xs ys p q r first second = second ∙ (ap (past ys) first ∙ sym (after_append xs ys p))

-- where no links are left it stays so
pub ended : (rs : List Reference) (p : Links) → p ≡ [] → p ≡ past rs p
ended rs p h = h ∙ (sym (after_last rs) ∙ sym (ap (past rs) h))

pub pattern_passed : (p : of_pattern.Pattern) (before after : Links) → after ≡ past (in_elements p.elements.items) before → after ≡ past (references (pattern_view p)) before
pattern_passed p before after h = h ∙ ap (λ rs. past rs before) (sym (in_pattern_is p))

pub select_passed : (e : of_expression.Expression) (x : of_inline.InlineExpression) (vs : Vec of_variant.Variant Global) (p q r : Links) → e ≡ expressions.Select x vs → q ≡ past (in_inline (inline_view x)) p → r ≡ past (in_variants (variants_view vs.items)) q → r ≡ past (in_expression (expression_view e)) p
select_passed e x vs p q r is first second = two_parts (in_inline (inline_view x)) (in_variants (variants_view vs.items)) p q r first second ∙ ap (λ rs. past rs p) (sym (in_select_is e x vs is))

pub arguments_passed : (a : of_call.CallArguments) (p q r : Links) → q ≡ past (in_positional (inlines_view (of_call.out-CallArguments a).positional.items)) p → r ≡ past (in_named (nameds_view (of_call.out-CallArguments a).named.items)) q → r ≡ past (in_arguments (arguments_view a)) p
arguments_passed a p q r first second = two_parts (in_positional (inlines_view (of_call.out-CallArguments a).positional.items)) (in_named (nameds_view (of_call.out-CallArguments a).named.items)) p q r first second ∙ ap (λ rs. past rs p) (sym (in_arguments_is a))
