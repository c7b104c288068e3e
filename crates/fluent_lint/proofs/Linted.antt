-- What linting says, from what was found of places.
use Rattle.std.proofs.Common.{◌≡◌, ℕ, ◌+◌, ◌<◌, List, [], ◌∷◌, ◌++◌, length, get_or, take, Result, Ok, Err, IfOk, Global, sym, ap, subst, ◌∙◌}
use Rattle.std.specs.declared.vec.Vec.{Vec}
use Rattle.std.proofs.lemmas.List.{append_assoc, append-nil, map-append, take_more}
use Rattle.fluent_ast.specs.Tree as t
use Rattle.fluent_ast.specs.Tree.{Text}
use Rattle.fluent_semantics.specs.Bundle.{Bundle}
use Rattle.fluent_resource.specs.ResourceView.{entries_of}
use Rattle.fluent_resource.specs.declared.resource.FluentResource.{FluentResource}
use Rattle.fluent_places.specs.Places.{Place, place_view, views, names_of, places_in}
use Rattle.fluent_clean.specs.Findings.{AreFindingsOf}
use Rattle.fluent_lint.specs.Lints.{places_in_resources, Lints}
use Rattle.fluent_clean.specs.Laws.{FineIsWritten}
use Rattle.fluent_clean.specs.declared.finding.Finding.{Finding}
use Rattle.fluent_places.specs.declared.place.Place as code

-- ---- the places of resources

places_snoc : (rs : List FluentResource) (r : FluentResource) → places_in_resources (rs ++ r ∷ []) ≡ places_in_resources rs ++ places_in (entries_of r)
places_snoc [] r = append-nil (places_in (entries_of r))
places_snoc (s ∷ ss) r = ap (λ l. places_in (entries_of s) ++ l) (places_snoc ss r) ∙ sym (append_assoc (places_in (entries_of s)) (places_in_resources ss) (places_in (entries_of r)))

next : (rs : List FluentResource) (i : ℕ) (r : FluentResource) → i < length rs → r ≡ get_or rs i r → places_in_resources (take (i + 1) rs) ≡ places_in_resources (take i rs) ++ places_in (entries_of r)
next rs i r lt is = ap places_in_resources (take_more rs i r lt ∙ ap (λ u. take i rs ++ u ∷ []) (sym is)) ∙ places_snoc (take i rs) r

-- those of one more resource
pub places_more : (rs : List FluentResource) (i : ℕ) (r : FluentResource) (old new more : List code.Place) (es : List t.Entry) → i < length rs → r ≡ get_or rs i r → new ≡ old ++ more
    → views more ≡ places_in es → es ≡ entries_of r → views old ≡ places_in_resources (take i rs) → views new ≡ places_in_resources (take (i + 1) rs)
places_more rs i r old new more es lt is e these of so_far =
    ap views e ∙ (map-append place_view old more ∙ (ap (λ l. l ++ views more) so_far ∙ (ap (λ l. places_in_resources (take i rs) ++ l) (these ∙ ap places_in of) ∙ sym (next rs i r lt is))))

-- ---- of a bundle

pub linted : {E : Type 0} (b : Bundle Text) (rs : List FluentResource) (seen : List Place) (limit : ℕ) (result : Result (Vec Finding Global) E) → FineIsWritten → limit ≡ b.limit → seen ≡ places_in_resources rs
    → IfOk result (λ fs. AreFindingsOf (names_of b) limit seen fs.items) → IfOk result (Lints b rs)
linted b rs seen limit (Ok fs) law same_limit same_places finds = record {
  finds = subst (λ l. AreFindingsOf (names_of b) l (places_in_resources rs) fs.items) same_limit (subst (λ xs. AreFindingsOf (names_of b) limit xs fs.items) same_places finds);
  written = law b;
}
linted b rs seen limit (Err e) law same_limit same_places finds = finds
