use Rattle.std.proofs.Common.{◌≡◌, refl, rules, ap, sym, ◌∙◌, List, [], ◌∷◌, length, nat_eq, map}
use Rattle.fluent_ast.specs.Tree.{pattern_of}
use Rattle.fluent_ast.specs.View.{element_view}
use Rattle.fluent_ast.specs.declared.ast.PatternElement.{PatternElement}
use Rattle.fluent_semantics.specs.Walk.{has_one}
use Rattle.fluent_resolver_state.specs.Facts.Views.{view_pattern}
use Rattle.fluent_resolver_state.proofs.placeable.has_one.Goals as goal

one_element : (xs : List PatternElement) → nat_eq (length xs) 1 ≡ has_one (pattern_of (map element_view xs))
one_element [] = refl
one_element (x ∷ []) = refl
one_element (x ∷ y ∷ xs) = search rules

pub returns : goal.returns
returns c =
    let n : c.len.result ≡ length c.args.pattern.now.elements.items = search rules in
    ap (λ n. nat_eq n 1) n ∙ one_element c.args.pattern.now.elements.items ∙ ap has_one (sym (view_pattern c.args.pattern.now))
