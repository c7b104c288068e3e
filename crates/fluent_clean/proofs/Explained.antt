-- What a pattern asks for is met, or explained by a finding.
use Rattle.std.proofs.Common.{◌≡◌, ◌+◌, ◌<◌, ℕ, List, [], ◌∷◌, ◌++◌, map, get_or, length, take, Option, Some, None, inl, inr, refl, subst}
use Rattle.std.specs.List.{AllByRecursion}
use Rattle.fluent_ast.specs.Tree.{Text, Attribute, Pattern}
use Rattle.fluent_semantics.specs.Bundle.{Target, unknown, without_value, found}
use Rattle.fluent_places.specs.Places.{Place, of_message, of_term, place_view, Names, place_target}
use Rattle.fluent_places.specs.Needs.{Need, a_message, a_term, needs, IsAmong}
use Rattle.fluent_places.specs.PlaceView.{pattern_in}
use Rattle.fluent_places.specs.NeedsView.{need_view}
use Rattle.fluent_places.specs.declared.listing.Need as needs_code
use Rattle.fluent_places.specs.Facts.Growing.{all_map, all_more, all_pushed, among_at}
use Rattle.fluent_clean.specs.Clean.{LeadsOn}
use Rattle.fluent_clean.specs.Inside.Table.{Known, IsWell}
use Rattle.fluent_clean.specs.Inside.Steps.{Answers, AnswersAt, Explains, Explained, ExplainedAt, IsAnswered, IsOf}
use Rattle.fluent_clean.specs.declared.finding.Finding.{Finding}
use Rattle.fluent_clean.specs.declared.finding.Kind.{Kind}
use Rattle.fluent_clean.proofs.Among.{one_of, pushed_kept, pushed_here}

-- ---- targets

pub none_there : (t : Target) → None ≡ pattern_in t → LeadsOn t → ⊥
none_there unknown h l = absurd (let e = l.1 in cc)
none_there without_value h l = absurd (let e = l.1 in cc)
none_there (found p) h l = absurd cc

-- ---- references

pub answers_message : (named : Names Text) (known : Known) (m : Text) (a : Attribute) (o : Option Kind) → AnswersAt named known (of_message m a) o → Answers named known (a_message m a) o
answers_message named known m a None h = ((h.0, h.1.0), h.1.1)
answers_message named known m a (Some k) h = h (a_message m a) refl

pub answers_term : (named : Names Text) (known : Known) (t : Text) (a : Attribute) (names : List Text) (o : Option Kind) → AnswersAt named known (of_term t a) o → Answers named known (a_term t a names) o
answers_term named known t a names None h = ((h.0, h.1.0), h.1.1)
answers_term named known t a names (Some k) h = h (a_term t a names) refl

-- ---- one more need

pub explains_of : (named : Names Text) (known : Known) (n : Need) (o : Option Kind) (k : Kind) → o ≡ Some k → Answers named known n o → Explains named known n k
explains_of named known n o k e h = subst (Answers named known n) e h

pub well_of : (named : Names Text) (known : Known) (n : Need) (o : Option Kind) → o ≡ None → Answers named known n o → IsWell named known n
well_of named known n o e h = subst (Answers named known n) e h

answered_more : (named : Names Text) (known : Known) (n : Need) (old new : List Finding) (f : Finding) → new ≡ old ++ f ∷ [] → IsAnswered named known old n → IsAnswered named known new n
answered_more named known n old new f e (inl well) = inl well
answered_more named known n old new f e (inr k) = inr (k.0, pushed_kept old new f k.0 e k.1, k.2)

pub explained_pushed : (named : Names Text) (known : Known) (x : Place) (xs : List needs_code.Need) (i : ℕ) (y : needs_code.Need) (old new : List Finding) (f : Finding) → i < length xs → y ≡ get_or xs i y → new ≡ old ++ f ∷ [] → place_view f.place ≡ x
    → Explains named known (need_view y) f.kind → Explained named known x (map need_view xs) (map need_view (take i xs)) old → Explained named known x (map need_view xs) (map need_view (take (i + 1) xs)) new
explained_pushed named known x xs i y old new f lt is e at explains h = record {
  each = all_pushed (IsOf named known x (map need_view xs)) old new f e h.each (at, (need_view y, among_at need_view xs i y lt is, explains));
  every = all_more (IsAnswered named known new) need_view xs i y lt is (all_map _ _ (map need_view (take i xs)) (λ n a. answered_more named known n old new f e a) h.every) (inr (f, pushed_here old new f e, explains));
}

pub explained_well : (named : Names Text) (known : Known) (x : Place) (xs : List needs_code.Need) (i : ℕ) (y : needs_code.Need) (old new : List Finding) → i < length xs → y ≡ get_or xs i y → new ≡ old
    → IsWell named known (need_view y) → Explained named known x (map need_view xs) (map need_view (take i xs)) old → Explained named known x (map need_view xs) (map need_view (take (i + 1) xs)) new
explained_well named known x xs i y old new lt is same well h = rw same record {
  each = h.each;
  every = all_more (IsAnswered named known old) need_view xs i y lt is h.every (inl well);
}

-- ---- all needs of what stands at a place

found_same : (t : Target) (p q : Pattern) → t ≡ found p → t ≡ found q → p ≡ q
found_same t p q e f = cc

pub explained_at : (named : Names Text) (known : Known) (x : Place) (p : Pattern) (fs : List Finding) → place_target named x ≡ found p → Explained named known x (needs p) (needs p) fs → ExplainedAt named known x fs
explained_at named known x p fs e h = record {
  each = all_map _ _ fs (λ f k. (k.0, (k.1.0, (p, e, k.1.1), k.1.2))) h.each;
  every = λ n asks. let same : asks.0 ≡ p = found_same (place_target named x) asks.0 p asks.1 e in one_of (IsAnswered named known fs) (needs p) n (subst (λ q. IsAmong n (needs q)) same asks.2) h.every;
}

-- ---- where there is no finding, all is well

well_none : (named : Names Text) (known : Known) (n : Need) (fs : List Finding) → fs ≡ [] → IsAnswered named known fs n → IsWell named known n
well_none named known n fs nil (inl well) = well
well_none named known n fs nil (inr k) = absurd (subst (IsAmong k.0) nil k.1)

pub all_well : (named : Names Text) (known : Known) (ns : List Need) (fs : List Finding) → fs ≡ [] → AllByRecursion (IsAnswered named known fs) ns → AllByRecursion (IsWell named known) ns
all_well named known ns fs nil all = all_map _ _ ns (λ n h. well_none named known n fs nil h) all
