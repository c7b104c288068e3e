-- Two have the same content where their parts have.
use Rattle.std.proofs.Common.{◌≡◌, ◌↔◌, IsTrue, Bool, List, map, Vec, refl, sym, ap, ◌∙◌, rules}
use Rattle.std.specs.declared.alloc.Global.{Global}
use Rattle.fluent_ast.specs.Tree.{select, arguments, inlines_of, nameds_of, variants_of, pattern_of}
use Rattle.fluent_ast.specs.View.{inline_view, expression_view, pattern_view, element_view, arguments_view, variant_view, named_view}
use Rattle.fluent_ast.specs.declared.ast.CallArguments.{CallArguments, out-CallArguments}
use Rattle.fluent_ast.specs.declared.ast.Expression.{Expression, the_lemmas}
use Rattle.fluent_ast.specs.declared.ast.Variant.{Variant}
use Rattle.fluent_ast.specs.declared.ast.Pattern.{Pattern, out-Pattern}
use Rattle.fluent_ast.specs.declared.ast.PatternElement.{PatternElement}
use Rattle.fluent_ast.specs.declared.ast.NamedArgument.{NamedArgument}
use Rattle.fluent_ast.specs.declared.ast.Expression.TheVariants as e
use Rattle.fluent_ast.specs.declared.ast.InlineExpression.{InlineExpression}
use Rattle.fluent_ast.proofs.Lists.{variants_of-same, pattern_of-same, inlines_of-same, nameds_of-same}

pub select_alike : (a b : Expression) (x y : InlineExpression) (xs ys : Vec Variant Global) (us ws : List Variant) (r : Bool) → a ≡ e.Select x xs → b ≡ e.Select y ys → us ≡ xs.items → ws ≡ ys.items
    → inline_view x ≡ inline_view y → (IsTrue r ↔ (map variant_view us ≡ map variant_view ws)) → IsTrue r ↔ (expression_view a ≡ expression_view b)
select_alike a b x y xs ys us ws r ea eb eu ew same h =
    let f : expression_view (e.Select x xs) ≡ select (inline_view x) (variants_of (map variant_view xs.items)) = search (rules, the_lemmas) in
    let g : expression_view (e.Select y ys) ≡ select (inline_view y) (variants_of (map variant_view ys.items)) = search (rules, the_lemmas) in
    (λ w. let k = h.0 w in cc, λ k. h.1 (let l = variants_of-same (map variant_view xs.items) (map variant_view ys.items) (cc) in cc))

pub pattern_alike : (a b : Pattern) (us ws : List PatternElement) (r : Bool) → us ≡ (out-Pattern a).elements.items → ws ≡ (out-Pattern b).elements.items
    → (IsTrue r ↔ (map element_view us ≡ map element_view ws)) → IsTrue r ↔ (pattern_view a ≡ pattern_view b)
pattern_alike a b us ws r eu ew h =
    let f : pattern_view a ≡ pattern_of (map element_view us) = rw eu (search (rules, the_lemmas)) in
    let g : pattern_view b ≡ pattern_of (map element_view ws) = rw ew (search (rules, the_lemmas)) in
    (λ w. f ∙ (ap pattern_of (h.0 w) ∙ sym g), λ k. h.1 (pattern_of-same _ _ (sym f ∙ (k ∙ g))))

arguments_is : (a : CallArguments) (us : List InlineExpression) (ps : List NamedArgument) → us ≡ (out-CallArguments a).positional.items → ps ≡ (out-CallArguments a).named.items
    → arguments_view a ≡ arguments (inlines_of (map inline_view us)) (nameds_of (map named_view ps))
arguments_is a us ps eu ep = rw (eu, ep) (search (rules, the_lemmas))

pub arguments_alike : (a b : CallArguments) (us ws : List InlineExpression) (ps qs : List NamedArgument) (r : Bool) → us ≡ (out-CallArguments a).positional.items → ws ≡ (out-CallArguments b).positional.items
    → ps ≡ (out-CallArguments a).named.items → qs ≡ (out-CallArguments b).named.items
    → map inline_view us ≡ map inline_view ws → (IsTrue r ↔ (map named_view ps ≡ map named_view qs)) → IsTrue r ↔ (arguments_view a ≡ arguments_view b)
arguments_alike a b us ws ps qs r eu ew ep eq same h =
    let f = arguments_is a us ps eu ep in
    let g = arguments_is b ws qs ew eq in
    (λ w. let k = h.0 w in cc, λ k. h.1 (nameds_of-same _ _ (cc)))

pub arguments_differ : (a b : CallArguments) (us ws : List InlineExpression) → us ≡ (out-CallArguments a).positional.items → ws ≡ (out-CallArguments b).positional.items
    → arguments_view a ≡ arguments_view b → map inline_view us ≡ map inline_view ws
arguments_differ a b us ws eu ew h =
    let f = arguments_is a us (out-CallArguments a).named.items eu refl in
    let g = arguments_is b ws (out-CallArguments b).named.items ew refl in
    inlines_of-same _ _ (cc)
