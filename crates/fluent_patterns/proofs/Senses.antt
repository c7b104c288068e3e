-- Sets of senses, by their content.
use Rattle.std.proofs.Common.{◌≡◌, Bool, true, false, ◌||◌, List, [], ◌∷◌, ◌++◌, cond, map, refl, ap, ◌∙◌}
use Rattle.std.specs.List.{list_any}
use Rattle.std.proofs.lemmas.List.{map-append}
use Rattle.indexmap.specs.IndexSet.{insert_key}
use Rattle.fluent_patterns.specs.Selects.{is_among, same_sense, with_sense}
use Rattle.fluent_patterns.specs.SelectView.{sense_view}
use Rattle.fluent_patterns.specs.contracts.sense.SensePartialEq.TheImpl.{eq-value}
use Rattle.fluent_patterns.specs.declared.sense.Sense.{Sense}
use Rattle.fluent_patterns.specs.declared.sense.Sense.TheVariants as sense

-- the derived test
abbrev pub is_same : Sense → Sense → Bool
is_same = (eq-value).it

same : (x y : Sense) → is_same x y ≡ same_sense (sense_view x) (sense_view y)
same (sense.Text s) (sense.Text t) = refl
same (sense.Text s) (sense.Number n w f p) = refl
same (sense.Number n w f p) (sense.Text s) = refl
same (sense.Number n w f p) (sense.Number m x g q) = refl

pub among : (x : Sense) (ys : List Sense) → list_any (is_same x) ys ≡ is_among (sense_view x) (map sense_view ys)
among x [] = refl
among x (y ∷ ys) = ap (λ b. b || list_any (is_same x) ys) (same x y) ∙ ap (λ b. same_sense (sense_view x) (sense_view y) || b) (among x ys)

put_seen : (b : Bool) (x : Sense) (xs : List Sense) → map sense_view (cond b xs (xs ++ x ∷ [])) ≡ cond b (map sense_view xs) (map sense_view xs ++ sense_view x ∷ [])
put_seen true x xs = refl
put_seen false x xs = map-append sense_view xs (x ∷ [])

pub inserted : (x : Sense) (old new : List Sense) → new ≡ insert_key is_same old x → map sense_view new ≡ with_sense (map sense_view old) (sense_view x)
inserted x old new e =
    ap (map sense_view) e
    ∙ (put_seen (list_any (is_same x) old) x old
    ∙ ap (λ b. cond b (map sense_view old) (map sense_view old ++ sense_view x ∷ [])) (among x old))
