-- Calls without arguments.
use Rattle.std.specs.Prelude.{nat_eq, ◌&&◌}
use Rattle.std.proofs.Common.{◌≡◌, refl, sym, ap, ◌∙◌, length, List, [], ◌∷◌, map, Some, true}
use Rattle.std.proofs.Math.Dec.{eqb-suc-zero}
use Rattle.fluent_ast.specs.Tree.{Arguments, arguments, no_inlines, argument, inlines_of, no_nameds, named_argument, nameds_of}
use Rattle.fluent_ast.specs.View.{arguments_view, inline_view, named_view}
use Rattle.fluent_ast.specs.declared.ast.CallArguments as of_call
use Rattle.fluent_ast.specs.declared.ast.InlineExpression.{InlineExpression}
use Rattle.fluent_ast.specs.declared.ast.NamedArgument.{NamedArgument}
use Rattle.fluent_semantics.specs.Walk.{elements}
use Rattle.fluent_resolver_state.specs.Facts.Views.{view_arguments}
use Rattle.fluent_resolver_state.specs.Status.{Status}
use Rattle.fluent_resolver.specs.Scoped.{are_none, given_ahead}

lists_none : (xs : List InlineExpression) (ns : List NamedArgument) → are_none (Some (arguments (inlines_of (map inline_view xs)) (nameds_of (map named_view ns)))) ≡ (nat_eq (length xs) 0 && nat_eq (length ns) 0)
lists_none [] [] = refl
lists_none [] (n ∷ ns) = sym (eqb-suc-zero (length ns))
lists_none (x ∷ xs) ns = sym (ap (λ b. b && nat_eq (length ns) 0) (eqb-suc-zero (length xs)))

-- whether both lists of the code are empty
pub are_none_at : (a : of_call.CallArguments) → are_none (Some (arguments_view a)) ≡ (nat_eq (length (of_call.out-CallArguments a).positional.items) 0 && nat_eq (length (of_call.out-CallArguments a).named.items) 0)
are_none_at a = ap (λ x. are_none (Some x)) (view_arguments a) ∙ lists_none (of_call.out-CallArguments a).positional.items (of_call.out-CallArguments a).named.items

-- where both lists are empty
pub nothing_is : (x : Arguments) → are_none (Some x) ≡ true → x ≡ arguments no_inlines no_nameds
nothing_is (arguments no_inlines no_nameds) h = refl
nothing_is (arguments no_inlines (named_argument n x ns)) h = cc
nothing_is (arguments (argument x xs) ns) h = cc

-- nothing happens then, and there are no values
pub nothing_given : {B : Type 0} (a : Status B) → (given_ahead (Some (arguments no_inlines no_nameds)) a).events ≡ []
unfolding elements
nothing_given a = refl

pub no_values : {B : Type 0} (a : Status B) → (given_ahead (Some (arguments no_inlines no_nameds)) a).values ≡ Some ([], [])
unfolding elements
no_values a = refl
