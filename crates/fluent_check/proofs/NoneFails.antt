-- What the linter says where it finds nothing.
use mathlib.Core.Bool.{true≢false}
use Rattle.std.proofs.Common.{◌≡◌, ◌∙◌, ℕ, Bool, true, false, IsTrue, List, [], ◌∷◌, inl, inr, refl, sym, subst}
use Rattle.std.specs.List.{AllByRecursion}
use Rattle.fluent_ast.specs.Tree.{Text, Entry}
use Rattle.fluent_semantics.specs.Bundle.{Bundle}
use Rattle.fluent_places.specs.Places.{Place, names_of}
use Rattle.fluent_clean.specs.Clean.{NeverFails}
use Rattle.fluent_clean.specs.Findings.{AreFindingsOf, IsNamedOrFine}
use Rattle.fluent_clean.specs.Laws.{FineIsWritten}
use Rattle.fluent_clean.specs.declared.finding.Finding.{Finding}
use Rattle.fluent_check.specs.Linted.{AreLinted, NoneFails, is_none, places_of}

-- these are the findings of the bundle's files
pub are_linted : (b : Bundle Text) (files : List (List Entry)) (seen : List Place) (limit : ℕ) (found : List Finding) → limit ≡ b.limit → seen ≡ places_of files
    → AreFindingsOf (names_of b) limit seen found → AreLinted b files found
are_linted b files seen limit found same_limit same_places are =
    subst (λ l. AreFindingsOf (names_of b) l (places_of files) found) same_limit (subst (λ xs. AreFindingsOf (names_of b) limit xs found) same_places are)

never : (b : Bundle Text) (xs : List Place) → FineIsWritten → AllByRecursion (IsNamedOrFine (names_of b) b.limit []) xs → AllByRecursion (NeverFails b) xs
never b [] written all = tt
never b (x ∷ xs) written all = (elim all.0 [ inl named ↦ absurd named | inr fine ↦ written b x fine ], never b xs written all.1)

nothing : (found : List Finding) → is_none found ≡ true → found ≡ []
nothing [] h = refl
nothing (f ∷ fs) h = absurd (true≢false (sym h))

pub none_fails : (b : Bundle Text) (files : List (List Entry)) (found : List Finding) (is_clean : Bool) → FineIsWritten → is_clean ≡ is_none found → IsTrue is_clean → AreLinted b files found → NoneFails b files
none_fails b files found is_clean written says is are =
    never b (places_of files) written (subst (λ fs. AllByRecursion (IsNamedOrFine (names_of b) b.limit fs) (places_of files)) (nothing found (sym says ∙ is)) are.told)
