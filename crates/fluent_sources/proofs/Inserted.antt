-- A name that is inserted into a set.
use Rattle.std.proofs.Common.{◌≡◌, ◌∙◌, ◌||◌, if◌then◌else◌, Bool, true, false, List, [], ◌∷◌, ◌++◌, refl, ap}
use Rattle.std.specs.Borrow.{Bor}
use Rattle.std.specs.List.{list_any}
use Rattle.std.proofs.lemmas.List.{map-append}
use Rattle.indexmap.specs.IndexSet.{insert_key}
use Rattle.fluent_ast.specs.Tree.{Text}
use Rattle.fluent_semantics.specs.Number.{is_text}
use Rattle.fluent_places.specs.Asked.{texts}

pub any_of_texts : (name : Text) (keys : List (Bor Text)) → list_any (λ k. is_text name k.now) keys ≡ list_any (is_text name) (texts keys)
any_of_texts name [] = refl
any_of_texts name (k ∷ keys) = ap (λ b. is_text name k.now || b) (any_of_texts name keys)

texts_if : (b : Bool) (name : Bor Text) (keys : List (Bor Text)) → texts (if b then keys else keys ++ name ∷ []) ≡ (if b then texts keys else texts keys ++ name.now ∷ [])
texts_if true name keys = refl
texts_if false name keys = map-append (λ (x : Bor Text). x.now) keys (name ∷ [])

pub inserted : (name : Bor Text) (keys : List (Bor Text)) → texts (insert_key (λ a b. is_text a.now b.now) keys name) ≡ insert_key is_text (texts keys) name.now
inserted name keys =
    texts_if (list_any (λ k. is_text name.now k.now) keys) name keys
    ∙ ap (λ b. if b then texts keys else texts keys ++ name.now ∷ []) (any_of_texts name.now keys)
