-- What is found of places, and when each finding is true.
use Rattle.std.specs.Prelude.{◌≡◌, ◌⊎◌, ℕ, ◌-◌, ◌^◌, ◌≤◌, ◌<◌, min, List, [], ◌∷◌, map, Bool, true, false, Some}
use Rattle.std.specs.List.{AllByRecursion}
use Rattle.fluent_ast.specs.Tree.{Text, Attribute, no_attribute, attribute, Pattern}
use Rattle.fluent_semantics.specs.Bundle.{unknown, without_value, found, message_target, term_target, is_message, is_term, is_function}
use Rattle.fluent_places.specs.Places.{Place, place_view, views, Names, place_target}
use Rattle.fluent_places.specs.Needs.{Need, a_message, a_term, a_function, a_default, needs, place_of, IsAmong}
use Rattle.fluent_clean.specs.Clean.{LeadsOn, IsCleanAt, IsMet, at_place, placeables_deep, IsFine}
use Rattle.fluent_clean.specs.declared.finding.Finding.{Finding}
use Rattle.fluent_clean.specs.declared.finding.Kind.{Kind}
use Rattle.fluent_clean.specs.declared.finding.Kind.TheVariants as kind

-- the places at which there is a finding
abbrev pub named_by : List Finding → List Place
named_by fs = map (λ f. place_view f.place) fs

-- what stands at a place needs that
abbrev pub NeedsAt : Names Text → Place → Need → Type 0
NeedsAt named x n = (p : Pattern) × (place_target named x ≡ found p) × IsAmong n (needs p)

-- ---- counts of placeables

-- a count stops at the largest number that a `u64` holds
abbrev pub capped : ℕ → ℕ
capped n = min n (2 ^ 64 - 1)

-- What stands at a place opens so many placeables at most: k is the count from some depth of references on.
abbrev pub CountsAs : {C : Type 0} → Names C → Place → ℕ → Type 0
CountsAs named x k = (deep : ℕ) × ((n : ℕ) → deep ≤ n → k ≡ capped (at_place named (placeables_deep named n) x))

-- A count of a place is right: what stands there, if a pattern does, is clean, and opens so many at most.
abbrev pub IsRight : {C : Type 0} → Names C → Place → ℕ → Type 0
IsRight named x k = IsCleanAt named (place_target named x) × CountsAs named x k

-- ---- cycles

-- what stands at a place refers to another
abbrev pub RefersAt : Names Text → Place → Place → Type 0
RefersAt named x y = (n : Need) × NeedsAt named x n × (place_of n ≡ Some y)

-- a place refers to the first of these, and each to the next
abbrev pub Leads : Names Text → Place → List Place → Type 0
Leads named x [] = Unit {0}
Leads named x (y ∷ ys) = RefersAt named x y × Leads named y ys

abbrev pub end : Place → List Place → Place
end x [] = x
end x (y ∷ ys) = end y ys

-- there are some; each refers to the next, and the last to the first
abbrev pub GoRound : Names Text → List Place → Type 0
GoRound named [] = ⊥
GoRound named (x ∷ xs) = Leads named (end x xs) (x ∷ xs)

abbrev pub BeginsWith : Place → List Place → Type 0
BeginsWith x [] = ⊥
BeginsWith x (y ∷ ys) = x ≡ y

-- ---- what a finding says, by its kind

-- a kind of finding that clean patterns have
abbrev pub is_large : Kind → Bool
is_large (kind.TooManyPlaceables count limit) = true
is_large k = false

-- one of the findings says that what stands at a place isn't clean
abbrev pub IsUncleanBy : List Finding → Place → Type 0
IsUncleanBy fs x = (f : Finding) × IsAmong f fs × (place_view f.place ≡ x) × (is_large f.kind ≡ false)

-- What a kind says of something that a pattern needs (n), where the places `seen` were looked at, and `fs` are all findings. The kinds of the last line say nothing of a need: see SaysOf.
abbrev pub Says : Names Text → List Place → List Finding → Need → Kind → Type 0
Says named seen fs n (kind.UnknownMessage id) = (a : Attribute) × (n ≡ a_message id.now a) × (is_message (named id.now) ≡ false)
Says named seen fs n (kind.UnknownAttribute id a) = (n ≡ a_message id.now (attribute a.now)) × (is_message (named id.now) ≡ true) × (message_target (named id.now) (attribute a.now) ≡ unknown)
Says named seen fs n (kind.NoValue id) = (n ≡ a_message id.now no_attribute) × (message_target (named id.now) no_attribute ≡ without_value)
Says named seen fs n (kind.UnknownTerm id) = (a : Attribute) × (names : List Text) × (n ≡ a_term id.now a names) × (is_term (named id.now) ≡ false)
Says named seen fs n (kind.UnknownTermAttribute id a) = (names : List Text) × (n ≡ a_term id.now (attribute a.now) names) × (is_term (named id.now) ≡ true) × (term_target (named id.now) (attribute a.now) ≡ unknown)
Says named seen fs n (kind.UnknownFunction id) = (n ≡ a_function id.now) × (is_function (named id.now) ≡ false)
Says named seen fs n kind.NoDefault = n ≡ a_default
Says named seen fs n (kind.LeadsTo y) = (place_of n ≡ Some (place_view y)) × IsUncleanBy fs (place_view y)
Says named seen fs n (kind.Elsewhere y) = (place_of n ≡ Some (place_view y)) × LeadsOn (place_target named (place_view y)) × (IsAmong (place_view y) seen → ⊥)
Says named seen fs n k = ⊥

-- What a kind says of a place (x) as a whole; the kinds of the last line say nothing of it.
abbrev pub SaysOf : Names Text → ℕ → Place → Kind → Type 0
SaysOf named limit x (kind.Cycle ys) = BeginsWith x (views ys.items) × GoRound named (views ys.items)
SaysOf named limit x (kind.TooManyPlaceables count most) = (most ≡ limit) × (limit < count) × IsRight named x count
SaysOf named limit x k = ⊥

-- what stands at a place needs something of which the kind says so
abbrev pub SaysAt : Names Text → List Place → List Finding → Place → Kind → Type 0
SaysAt named seen fs x k = (n : Need) × NeedsAt named x n × Says named seen fs n k

-- ---- what is found

-- A finding is true: its kind says so of something that its pattern needs, or of its place.
abbrev pub IsTrueFinding : Names Text → ℕ → List Place → List Finding → Finding → Type 0
IsTrueFinding named limit seen fs f = SaysAt named seen fs (place_view f.place) f.kind ⊎ SaysOf named limit (place_view f.place) f.kind

-- a finding names a place, or what stands there is clean and opens no more placeables than the limit
abbrev pub IsNamedOrFine : Names Text → ℕ → List Finding → Place → Type 0
IsNamedOrFine named limit fs x = IsAmong x (named_by fs) ⊎ IsFine named limit x

-- All that what stands there needs is met, or a finding of the place says why not.
abbrev pub IsWhole : Names Text → List Place → List Finding → Place → Type 0
IsWhole named seen fs x = (n : Need) → NeedsAt named x n → IsMet named n ⊎ ((f : Finding) × IsAmong f fs × (place_view f.place ≡ x) × Says named seen fs n f.kind)

-- These are the findings of the places `seen`: of each place there is one, or it is fine (`told`); each is true (`holds`); and for all that a place needs and that isn't met there is one (`whole`).
pub record AreFindingsOf (named : Names Text) (limit : ℕ) (seen : List Place) (fs : List Finding) : Type 0 where
  pub told : AllByRecursion (IsNamedOrFine named limit fs) seen
  pub holds : AllByRecursion (IsTrueFinding named limit seen fs) fs
  pub whole : AllByRecursion (IsWhole named seen fs) seen
