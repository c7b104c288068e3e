-- Records that stand before a rest, and the one after them. A record of the code is one by `view`.
use Rattle.std.proofs.Common.{◌≡◌, ◌∙◌, List, [], ◌∷◌, ◌++◌, ℕ, map, refl, sym, ap, subst}
use Rattle.std.specs.Prelude.{Some}
use Rattle.std.specs.List.{All}
use Rattle.std.proofs.lemmas.List.{map_push}
use Rattle.std.proofs.lemmas.List.Elements.{All-push, All-head}
use Rattle.fluent_answers.specs.Records.{AreWith, HasFirstWith, Record, StandBefore, one_record}

pub one_more : (all : List Record) (s rest next : List ℕ) (r : Record) → StandBefore all s rest → one_record rest ≡ Some (r, next) → StandBefore (all ++ r ∷ []) s next
one_more [] s rest next r e is = (next, subst (λ t. one_record t ≡ Some (r, next)) (sym e) is, refl)
one_more (b ∷ all) s rest next r before is = (before.0, before.1, one_more all before.0 rest next r before.2 is)

module _ (HasText : Record → Type 0) where
  -- there is a first one, where one stands after these
  pub has_first : (all : List Record) (s rest next : List ℕ) (r : Record) → StandBefore all s rest → All HasText all → one_record rest ≡ Some (r, next) → HasText r → HasFirstWith HasText s
  has_first [] s rest next r e texts is text = record { first = r; after = next; some = subst (λ t. one_record t ≡ Some (r, next)) (sym e) is; texts = text }
  has_first (b ∷ all) s rest next r before texts is text = record { first = b; after = before.0; some = before.1; texts = All-head HasText b all texts }

  module _ {X : Type 0} (view : X → Record) where
    abbrev pub Read : List X → List ℕ → List ℕ → Type 0
    Read items s rest = StandBefore (map view items) s rest × All HasText (map view items)

    -- a turn of the loop
    pub turn : (items items' : List X) (x : X) (s rest next : List ℕ) → items' ≡ items ++ x ∷ [] → Read items s rest → one_record rest ≡ Some (view x, next) → HasText (view x) → Read items' s next
    turn items items' x s rest next e read is texts =
        let all = map view items in
        subst (λ l. StandBefore l s next × All HasText l) (sym (map_push view items x) ∙ ap (map view) (sym e))
        (one_more all s rest next (view x) read.0 is, All-push HasText all (view x) read.1 texts)

    -- there is a first one, where there are some
    pub first_of : (items : List X) (s : List ℕ) → AreWith HasText (map view items) s → (items ≡ [] → ⊥) → HasFirstWith HasText s
    first_of [] s are some = absurd (some refl)
    first_of (x ∷ items) s are some = record { first = view x; after = are.whole.0; some = are.whole.1; texts = All-head HasText (view x) (map view items) are.texts }
