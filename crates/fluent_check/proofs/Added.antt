-- Groups of files, part by part.
use Rattle.std.proofs.Common.{◌≡◌, ◌∙◌, List, [], ◌∷◌, ◌++◌, refl, sym, ap}
use Rattle.std.proofs.lemmas.List.{append_assoc}
use Rattle.fluent_ast.specs.Tree.{Text}
use Rattle.fluent_semantics.specs.Bundle.{Bundle, add_resource, after}
use Rattle.fluent_places.specs.Places.{places_in}
use Rattle.fluent_sources.specs.ReadFiles.{ReadFile, entries_in}
use Rattle.fluent_sources.specs.Standing.{standings_in, standings_of}
use Rattle.fluent_check.specs.Languages.{adding_all}
use Rattle.fluent_check.specs.Linted.{places_of}

pub added_both : (xs ys : List ReadFile) (b : Bundle Text) → adding_all (entries_in (xs ++ ys)) b ≡ adding_all (entries_in ys) (adding_all (entries_in xs) b)
added_both [] ys b = refl
added_both (x ∷ xs) ys b = added_both xs ys (after (add_resource x.entries) b)

pub standings_both : (xs ys : List ReadFile) → standings_in (xs ++ ys) ≡ standings_in xs ++ standings_in ys
standings_both [] ys = refl
standings_both (x ∷ xs) ys = ap (λ l. standings_of x ++ l) (standings_both xs ys) ∙ sym (append_assoc (standings_of x) (standings_in xs) (standings_in ys))

pub places_both : (xs ys : List ReadFile) → places_of (entries_in (xs ++ ys)) ≡ places_of (entries_in xs) ++ places_of (entries_in ys)
places_both [] ys = refl
places_both (x ∷ xs) ys =
    ap (λ l. places_in x.entries ++ l) (places_both xs ys) ∙ sym (append_assoc (places_in x.entries) (places_of (entries_in xs)) (places_of (entries_in ys)))
