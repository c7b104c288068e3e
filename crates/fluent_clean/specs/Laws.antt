-- What holds of clean patterns, and of what is fine, as statements; and which patterns are not clean.
use Rattle.std.specs.Prelude.{◌≡◌, ◌⊎◌, ℕ, suc, ◌-◌, ◌≤◌, List, []}
use Rattle.std.specs.List.{AllByRecursion}
use Rattle.fluent_ast.specs.Tree.{Text, Pattern}
use Rattle.fluent_semantics.specs.Value.{Value}
use Rattle.fluent_semantics.specs.Arguments.{Map}
use Rattle.fluent_semantics.specs.Bundle.{Bundle}
use Rattle.fluent_semantics.specs.Walk.{Environment, application, local}
use Rattle.fluent_semantics.specs.Meaning.{Budget, left, meaning, run}
use Rattle.fluent_semantics.specs.Result.{written_pattern, substituted_pattern}
use Rattle.fluent_places.specs.Places.{Place, Names, names_of}
use Rattle.fluent_places.specs.Needs.{Need, needs, IsAmong}
use Rattle.fluent_clean.specs.Clean.{RefersTo, IsThere, IsClean, IsMet, AreGiven, placeables_deep, placeables, IsFine, NeverFails}

-- ---- no errors

-- By substitution, a clean pattern has no error with any arguments that give it what it asks for.
abbrev pub CleanMeansNoErrors : Type 0 → Type 0
CleanMeansNoErrors C = (b : Bundle C) (args : Map (Value C)) (p : Pattern) → IsClean (names_of b) p → AreGiven (names_of b) args p → (substituted_pattern b args p).errors ≡ []

-- Any pattern opens at most as many placeables as its tree says, in any environment.
abbrev pub TreesBoundPlaceables : Type 0 → Type 0
TreesBoundPlaceables C = (b : Bundle C) (env : Environment C) (path : List Pattern) (p : Pattern) → (meaning b env path p).opened ≤ placeables b p

-- So a clean pattern within the limit is written as its substitution text, with no error.
abbrev pub CleanIsWrittenInFull : Type 0 → Type 0
CleanIsWrittenInFull C = (b : Bundle C) (args : Map (Value C)) (p : Pattern) → IsClean (names_of b) p → AreGiven (names_of b) args p → placeables b p ≤ b.limit →
    let means = substituted_pattern b args p in
    written_pattern b args p ≡ record { value = means.value; errors = []; budget = left (b.limit - means.opened) }

-- what is fine never fails
abbrev pub FineIsWritten : Type 0
FineIsWritten = (b : Bundle Text) (x : Place) → IsFine (names_of b) b.limit x → NeverFails b x

-- The deeper references are followed, the more placeables are counted.
abbrev pub DeeperCountsMore : Type 0 → Type 0
DeeperCountsMore C = (named : Names C) (n : ℕ) (p : Pattern) → placeables_deep named n p ≤ placeables_deep named (suc n) p

-- ---- terms

-- Where a term's own arguments give what a pattern asks for, it is as with these for the application's: so none of its variables is missing.
pub record SetTermsMissNothing (C : Type 0) : Type 0 where
  pub substituted : (b : Bundle C) (args : Map (Value C)) (path : List Pattern) (p : Pattern) → AreGiven (names_of b) args p → meaning b (local args) path p ≡ meaning b (application args) path p
  pub budgeted : (b : Bundle C) (args : Map (Value C)) (path : List Pattern) (p : Pattern) (budget : Budget) → AreGiven (names_of b) args p → run b (local args) path p budget ≡ run b (application args) path p budget

-- ---- clean or not

-- A pattern is clean where each of its needs is met.
abbrev pub MetIsClean : Type 0 → Type 0
MetIsClean C = (named : Names C) (p : Pattern) → AllByRecursion (IsMet named) (needs p) → IsClean named p

-- something that it needs is not there
abbrev pub Lacks : {C : Type 0} → Names C → Pattern → Type 0
Lacks named p = (n : Need) × IsAmong n (needs p) × (IsThere named n → ⊥)

-- it refers to one of these
abbrev pub RefersAmong : {C : Type 0} → Names C → List Pattern → Pattern → Type 0
RefersAmong named ps p = (q : Pattern) × RefersTo named p q × IsAmong q ps

-- each of them lacks something, or refers to one of all these
abbrev pub AreStuck : {C : Type 0} → Names C → List Pattern → List Pattern → Type 0
AreStuck named all ps = AllByRecursion (λ p. Lacks named p ⊎ RefersAmong named all p) ps

-- Patterns of which each lacks something, or refers to one of them, are not clean: so those of a cycle are not, and none that leads into one.
abbrev pub StuckAreUnclean : Type 0 → Type 0
StuckAreUnclean C = (named : Names C) (ps : List Pattern) → AreStuck named ps ps → (p : Pattern) → IsAmong p ps → IsClean named p → ⊥
