-- What shows that a pattern opens too many placeables, where it isn't shown without arguments.
use Rattle.std.proofs.Common.{◌≡◌, ◌∙◌, ◌||◌, Bool, false, List, [], map, take, ap, sym}
use Rattle.std.proofs.lemmas.List.{take-map}
use Rattle.std.specs.List.{list_any}
use Rattle.fluent_ast.specs.Tree.{Text, Pattern}
use Rattle.fluent_semantics.specs.Arguments.{Map}
use Rattle.fluent_semantics.specs.Bundle.{Bundle}
use Rattle.fluent_semantics.specs.Value.{Value}
use Rattle.fluent_patterns.specs.Choices.{choice_view, choices, choices_in}
use Rattle.fluent_patterns.specs.declared.choices.Choice.{Choice}
use Rattle.fluent_check.specs.Tried.{given, reaches_limit, tried_arguments}

pub shown_by_choices : (b : Bundle Text) (p : Pattern) (args : Map (Value Text)) (first : Bool) (list slice some : List Choice) → args ≡ [] → first ≡ reaches_limit b p args → first ≡ false
    → choices_in list ≡ choices p → slice ≡ list → some ≡ take 32 slice
    → list_any (reaches_limit b p) (map given (choices_in some)) ≡ list_any (reaches_limit b p) (tried_arguments p)
shown_by_choices b p args first list slice some none says fails all same taken =
    let chosen : choices_in some ≡ take 32 (choices p) = ap choices_in (taken ∙ ap (take 32) same) ∙ (sym (take-map choice_view 32 list) ∙ ap (take 32) all) in
    let unshown : reaches_limit b p [] ≡ false = ap (reaches_limit b p) (sym none) ∙ (sym says ∙ fails) in
    let others = list_any (reaches_limit b p) (map given (take 32 (choices p))) in
    ap (λ cs. list_any (reaches_limit b p) (map given cs)) chosen ∙ sym (ap (λ x. x || others) unshown)
