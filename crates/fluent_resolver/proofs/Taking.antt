-- The next argument of a call has its value.
use Rattle.std.proofs.Common.{◌≡◌, refl, sym, ap, subst, ◌∙◌, ℕ, ◌+◌, ◌≤◌, List, ◌++◌, append_assoc, length, drop, get_or, Option, true, ltb}
use Rattle.std.proofs.lemmas.Bool.{ltb-true}
use Rattle.fluent_ast.specs.References.{Reference, inlines_view, nameds_view}
use Rattle.fluent_ast.specs.ReferencesOf.{of_inline, of_inlines, of_nameds}
use Rattle.fluent_ast.specs.Tree.{Text, Inline, Nameds, named_argument, no_inlines}
use Rattle.fluent_ast.specs.View.{inline_view}
use Rattle.fluent_ast.specs.declared.ast.InlineExpression.{InlineExpression}
use Rattle.fluent_ast.specs.declared.ast.NamedArgument.{NamedArgument}
use Rattle.fluent_references.specs.CursorLaws.{back}
use Rattle.fluent_references.specs.CursorSteps.{here, leaves, named_in_turn, of_named, positional_in_turn}
use Rattle.fluent_references.specs.Links.{IsBefore, Links, past}
use Rattle.fluent_semantics.specs.Arguments.{Map, set}
use Rattle.fluent_semantics.specs.Value.{Value}
use Rattle.fluent_resolver_state.specs.Facts.Lists.{next_of, none_left}
use Rattle.fluent_resolver_state.specs.Facts.Views.{view_named}
use Rattle.fluent_resolver.specs.Inside.Parts.{after_value}

-- ---- where the cursor stands

-- a positional argument is passed over
pub passed_first : (number : Text → Option ℕ) (xs : List InlineExpression) (i : ℕ) (x : InlineExpression) (ns : List Reference) (p q : Links) → true ≡ ltb i (length xs) → x ≡ get_or xs i x → q ≡ past (of_inline x) p → IsBefore number (of_inlines (drop i xs) ++ ns) p → IsBefore number (of_inlines (drop (i + 1) xs) ++ ns) q
passed_first number xs i x ns p q within is is_after h =
    let first = ap (λ l. l ++ ns) (here of_inline of_inlines positional_in_turn xs i x (ltb-true i (length xs) (sym within)) is) ∙ append_assoc (of_inline x) (of_inlines (drop (i + 1) xs)) ns in
    subst (IsBefore number (of_inlines (drop (i + 1) xs) ++ ns)) (sym is_after) (back number (of_inline x) (of_inlines (drop (i + 1) xs) ++ ns) p (subst (λ rs. IsBefore number rs p) first h))

-- a named one, where no other is left
pub passed_named : (number : Text → Option ℕ) (xs : List InlineExpression) (i : ℕ) (ns : List NamedArgument) (j : ℕ) (n : NamedArgument) (p q : Links) → length xs ≤ i → true ≡ ltb j (length ns) → n ≡ get_or ns j n → q ≡ past (of_named n) p → IsBefore number (of_inlines (drop i xs) ++ of_nameds (drop j ns)) p → IsBefore number (of_inlines (drop i xs) ++ of_nameds (drop (j + 1) ns)) q
passed_named number xs i ns j n p q none within is is_after h =
    subst (λ l. IsBefore number (of_inlines l ++ of_nameds (drop (j + 1) ns)) q) (sym (none_left xs i none))
    (leaves of_named of_nameds named_in_turn ns j n (ltb-true j (length ns) (sym within)) is number p q is_after
    (subst (λ l. IsBefore number (of_inlines l ++ of_nameds (drop j ns)) p) (none_left xs i none) h))

-- ---- the values

after_named : (values : List (Value Text)) (m : Map (Value Text)) (name : Text) (x : Inline) (rest : Nameds) (y : Value Text) → record { values = values; map = set name y m; more = no_inlines; more_named = rest } ≡ after_value (record { values = values; map = m; more = no_inlines; more_named = named_argument name x rest }) y
after_named values m name x rest y = refl

pub held_named : (xs : List InlineExpression) (i : ℕ) (ns : List NamedArgument) (j : ℕ) (n : NamedArgument) (values : List (Value Text)) (m m' : Map (Value Text)) (y : Value Text) → length xs ≤ i → true ≡ ltb j (length ns) → n ≡ get_or ns j n → m' ≡ set n.name.name.now y m
    → record { values = values; map = m'; more = inlines_view (drop i xs); more_named = nameds_view (drop (j + 1) ns) } ≡ after_value (record { values = values; map = m; more = inlines_view (drop i xs); more_named = nameds_view (drop j ns) }) y
held_named xs i ns j n values m m' y none within is is_set =
    let last = ap inlines_view (none_left xs i none) in
    let rest = drop (j + 1) ns in
    let next = ap nameds_view (next_of ns j n (ltb-true j (length ns) (sym within)) is) ∙ ap (λ v. named_argument v.0 v.1 (nameds_view rest)) (view_named n) in
    ap (λ m. record { values = values; map = m; more = inlines_view (drop i xs); more_named = nameds_view rest }) is_set
    ∙ ap (λ l. record { values = values; map = set n.name.name.now y m; more = l; more_named = nameds_view rest }) last
    ∙ after_named values m n.name.name.now (inline_view n.value) (nameds_view rest) y
    ∙ ap (λ l. after_value (record { values = values; map = m; more = no_inlines; more_named = l }) y) (sym next)
    ∙ ap (λ l. after_value (record { values = values; map = m; more = l; more_named = nameds_view (drop j ns) }) y) (sym last)
