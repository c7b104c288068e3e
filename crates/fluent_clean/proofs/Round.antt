-- Places that refer each to the next.
use Rattle.std.proofs.Common.{◌≡◌, ℕ, ◌+◌, ◌-◌, ◌<◌, ◌≤◌, List, [], ◌∷◌, ◌++◌, length, get_or, slice_get, take, Some, refl, sym, ap, subst, ◌∙◌, arith}
use Rattle.std.proofs.lemmas.List.{take_all, take_more, map-append}
use Rattle.fluent_ast.specs.Tree.{Text, Pattern}
use Rattle.fluent_places.specs.Places.{Place, place_view, views, Names, place_target}
use Rattle.fluent_places.specs.Needs.{needs}
use Rattle.fluent_places.specs.PlaceView.{pattern_in}
use Rattle.fluent_places.specs.NeedsView.{RefersIn}
use Rattle.fluent_places.specs.declared.place.Place as code
use Rattle.fluent_places.specs.Facts.Targets.{some_there}
use Rattle.fluent_clean.specs.Findings.{RefersAt, Leads, end, GoRound, BeginsWith}

refers_at : (named : Names Text) (x y : Place) (p : Pattern) → Some p ≡ pattern_in (place_target named x) → RefersIn (needs p) y → RefersAt named x y
refers_at named x y p at r = (r.0, (p, some_there (place_target named x) p at, r.1), r.2)

leads_snoc : (named : Names Text) (x : Place) (xs : List Place) (y : Place) → Leads named x xs → RefersAt named (end x xs) y → Leads named x (xs ++ y ∷ [])
leads_snoc named x [] y h r = (r, tt)
leads_snoc named x (z ∷ zs) y h r = (h.0, leads_snoc named z zs y h.1 r)

end_snoc : (x : Place) (xs : List Place) (y : Place) → end x (xs ++ y ∷ []) ≡ y
end_snoc x [] y = refl
end_snoc x (z ∷ zs) y = end_snoc z zs y

next : (xs : List code.Place) (i : ℕ) (x : code.Place) → i < length xs → x ≡ get_or xs i x → views (take (i + 1) xs) ≡ views (take i xs) ++ place_view x ∷ []
next xs i x lt is = ap views (take_more xs i x lt) ∙ (map-append place_view (take i xs) (get_or xs i x ∷ []) ∙ ap (λ u. views (take i xs) ++ place_view u ∷ []) (sym is))

-- from a place through those so far, to the last of them
pub record Led (named : Names Text) (x : Place) (xs : List Place) (last : Place) : Type 0 where
  pub leads : Leads named x xs
  pub last_is : last ≡ end x xs

pub led_none : (named : Names Text) (x : Place) → Led named x [] x
led_none named x = record { leads = tt; last_is = refl }

pub led_more : (named : Names Text) (x : Place) (xs : List code.Place) (i : ℕ) (y last : code.Place) (p : Pattern) → i < length xs → y ≡ get_or xs i y
    → Some p ≡ pattern_in (place_target named (place_view last)) → RefersIn (needs p) (place_view y)
    → Led named x (views (take i xs)) (place_view last) → Led named x (views (take (i + 1) xs)) (place_view y)
led_more named x xs i y last p lt is at r h =
    let refers : RefersAt named (end x (views (take i xs))) (place_view y) = subst (λ z. RefersAt named z (place_view y)) h.last_is (refers_at named (place_view last) (place_view y) p at r) in
    subst (λ l. Led named x l (place_view y)) (sym (next xs i y lt is)) (record {
      leads = leads_snoc named x (views (take i xs)) (place_view y) h.leads refers;
      last_is = sym (end_snoc x (views (take i xs)) (place_view y));
    })

pub led_all : (named : Names Text) (x : Place) (xs : List code.Place) (i : ℕ) (last : Place) → length xs ≤ i → Led named x (views (take i xs)) last → Leads named x (views xs)
led_all named x xs i last h led = subst (λ l. Leads named x (views l)) (take_all i xs h) led.leads

pub begins : (xs : List code.Place) (x : code.Place) → Some x ≡ slice_get xs 0 → BeginsWith (place_view x) (views xs)
begins [] x h = absurd cc
begins (y ∷ ys) x h = let same : x ≡ y = cc in ap place_view same

end_of : (x : code.Place) (xs : List code.Place) (l : code.Place) → Some l ≡ slice_get (x ∷ xs) (length xs) → place_view l ≡ end (place_view x) (views xs)
end_of x [] l h = let same : l ≡ x = cc in ap place_view same
end_of x (y ∷ ys) l h = end_of y ys l h

-- where the last of them refers to the first
pub round : (named : Names Text) (xs : List code.Place) (l : code.Place) → Some l ≡ slice_get xs (length xs - 1) → Leads named (place_view l) (views xs) → GoRound named (views xs)
round named [] l h leads = absurd cc
round named (x ∷ xs) l h leads =
    let at : length (x ∷ xs) - 1 ≡ length xs = omega arith in
    subst (λ z. Leads named z (views (x ∷ xs))) (end_of x xs l (h ∙ ap (slice_get (x ∷ xs)) at)) leads
