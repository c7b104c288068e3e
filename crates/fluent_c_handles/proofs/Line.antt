-- Lines of ids.
use Rattle.std.proofs.Common.{◌≡◌, List, [], ◌∷◌, ◌++◌, map, refl, ap, sym, ◌∙◌, append_assoc}
use Rattle.std.specs.Borrow.{Bor}
use Rattle.fluent_ast.specs.Tree.{Text}
use Rattle.fluent_c_handles.specs.Calls.Finding.{id_lines}

-- one more line
pub lines_more : (ids : List (Bor Text)) (id : Bor Text) → id_lines (map (λ x. x.now) (ids ++ id ∷ [])) ≡ (id_lines (map (λ x. x.now) ids) ++ id.now) ++ 10 ∷ []
lines_more [] id = refl
lines_more (x ∷ xs) id =
    let before = 10 ∷ id_lines (map (λ y. y.now) xs) in
    ap (λ rest. x.now ++ 10 ∷ rest) (lines_more xs id)
    ∙ sym (append_assoc x.now (before ++ id.now) (10 ∷ [])) ∙ ap (λ t. t ++ 10 ∷ []) (sym (append_assoc x.now before id.now))
