-- The pieces of fallbacks.
use Rattle.std.proofs.Common.{◌≡◌, sym, ap, ◌∙◌, [], ◌∷◌, ◌++◌, append-nil, append_assoc}
use Rattle.fluent_ast.specs.Tree.{Text}

-- a name, a point and another name, between two texts, in six pieces
pub in_six : (before x y after : Text) → (before ++ (x ++ 46 ∷ [])) ++ (y ++ (after ++ [])) ≡ before ++ ((x ++ 46 ∷ y) ++ after)
in_six before x y after =
    append_assoc before (x ++ 46 ∷ []) (y ++ (after ++ []))
    ∙ ap (λ t. before ++ t) (
    append_assoc x (46 ∷ []) (y ++ (after ++ []))
    ∙ ap (λ t. x ++ 46 ∷ (y ++ t)) (append-nil after)
    ∙ sym (append_assoc x (46 ∷ y) after)
    )
