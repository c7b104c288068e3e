-- A name that is inserted into a set.
use Rattle.std.proofs.Common.{◌≡◌, ◌∙◌, ℕ, ◌+◌, ◌<◌, length, get_or, drop, sym, ◌||◌, if◌then◌else◌, Bool, true, false, List, [], ◌∷◌, ◌++◌, refl, ap}
use Rattle.std.specs.Borrow.{Bor}
use Rattle.std.specs.List.{list_any}
use Rattle.std.proofs.lemmas.List.{at_drop_more, map-append}
use Rattle.indexmap.specs.IndexSet.{insert_all, insert_key}
use Rattle.fluent_ast.specs.Tree.{Text}
use Rattle.fluent_semantics.specs.Number.{is_text}
use Rattle.fluent_places.specs.Asked.{texts}

pub any_of_texts : (name : Text) (keys : List (Bor Text)) → list_any (λ k. is_text name k.now) keys ≡ list_any (is_text name) (texts keys)
any_of_texts name [] = refl
any_of_texts name (k ∷ keys) = ap (λ b. is_text name k.now || b) (any_of_texts name keys)

texts_if : (b : Bool) (name : Bor Text) (keys : List (Bor Text)) → texts (if b then keys else keys ++ name ∷ []) ≡ (if b then texts keys else texts keys ++ name.now ∷ [])
texts_if true name keys = refl
texts_if false name keys = map-append (λ (x : Bor Text). x.now) keys (name ∷ [])

pub inserted : (name : Bor Text) (keys : List (Bor Text)) → texts (insert_key (λ a b. is_text a.now b.now) keys name) ≡ insert_key is_text (texts keys) name.now
inserted name keys =
    texts_if (list_any (λ k. is_text name.now k.now) keys) name keys
    ∙ ap (λ b. if b then texts keys else texts keys ++ name.now ∷ []) (any_of_texts name.now keys)

-- what is left of a list after one more
pub once_more : (names : List (Bor Text)) (i : ℕ) (d : Bor Text) (old new : List (Bor Text)) (whole : List Text) → i < length names → new ≡ insert_key (λ a b. is_text a.now b.now) old (get_or names i d)
    → insert_all is_text (texts old) (texts (drop i names)) ≡ whole → insert_all is_text (texts new) (texts (drop (i + 1) names)) ≡ whole
once_more names i d old new whole h added e =
    ap (λ ks. insert_all is_text (texts ks) (texts (drop (i + 1) names))) added
    ∙ (ap (λ ks. insert_all is_text ks (texts (drop (i + 1) names))) (inserted (get_or names i d) old)
    ∙ (sym (at_drop_more (λ ns. insert_all is_text (texts old) (texts ns)) names i d h) ∙ e))
