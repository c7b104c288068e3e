-- Groups of files of which nothing ever shows an error, by the entries of the files.
use Rattle.std.proofs.Common.{◌≡◌, ◌∙◌, ℕ, suc, List, [], ◌∷◌, ◌++◌, get_or, map, drop, refl, sym, ap, subst}
use Rattle.std.specs.List.{AllByRecursion}
use Rattle.std.proofs.lemmas.List.{map-append}
use Rattle.fluent_ast.specs.Tree.{Text, Entry}
use Rattle.fluent_resource.specs.ResourceView.{entries_of, source_in}
use Rattle.fluent_resource.specs.declared.resource.FluentResource.{FluentResource}
use Rattle.fluent_check.specs.Faultless.{AreFaultless, AreFaultlessBy, IsFaultless}
use Rattle.fluent_sources.specs.Groups.{Group, entries_loaded}
use Rattle.fluent_check.specs.Inside.Faultless.{IsFaultlessBeside, IsFaultlessBy}
use Rattle.fluent_sources.specs.ReadFiles.{ReadFile, entries_in, file_with, files_read, files_with}
use Rattle.fluent_sources.specs.Reading.{entries_read, junk_read}
use Rattle.fluent_sources.specs.declared.groups.Grouping.{Grouping}
use Rattle.fluent_sources.specs.declared.groups.Grouping.TheVariants.{Together, Each, Pairs}
use Rattle.fluent_sources.specs.declared.source.Sources.{Sources}
use Rattle.fluent_check.proofs.CalledPlaces.{HavePlaces, faultless_files, have_both, have_one, have_read}

entries_with : (number : ℕ) (rs : List FluentResource) (ranges : List (List (ℕ × ℕ))) → entries_in (files_with number rs ranges) ≡ map entries_of rs
entries_with number [] ranges = refl
entries_with number (r ∷ rs) ranges = ap (λ l. entries_of r ∷ l) (entries_with (suc number) rs (drop 1 ranges))

of_read : (number : ℕ) (sources : Sources) → entries_in (files_read number sources) ≡ entries_read sources
of_read number sources = entries_with number sources.resources.items (junk_read sources)

entries_both : (xs ys : List ReadFile) → entries_in (xs ++ ys) ≡ entries_in xs ++ entries_in ys
entries_both xs ys = map-append (λ (file : ReadFile). file.entries) xs ys

each : (tag : Text) (beside : List ReadFile) (number : ℕ) (rs : List FluentResource) (ranges : List (List (ℕ × ℕ))) → HavePlaces beside → AllByRecursion (IsFaultlessBeside tag beside) (files_with number rs ranges)
    → AllByRecursion (IsFaultless tag (entries_in beside)) (map entries_of rs)
each tag beside number [] ranges have all = tt
each tag beside number (r ∷ rs) ranges have all =
    let junk = get_or ranges 0 [] in
    let file = file_with number (source_in r) (entries_of r) junk in (
      subst (AreFaultless tag) (map-append (λ (f : ReadFile). f.entries) beside (file ∷ [])) (faultless_files tag (beside ++ file ∷ []) (have_both beside (file ∷ []) have (have_one number r junk)) all.0),
      each tag beside (suc number) rs (drop 1 ranges) have all.1,
    )

module _ (tag : Text) (beside sources : Sources) (m n : ℕ) where
  have_beside : HavePlaces (files_read m beside)
  have_beside = have_read m beside.resources.items (junk_read beside)

  by_each : AllByRecursion (IsFaultlessBeside tag (files_read m beside)) (files_read n sources) → AllByRecursion (IsFaultless tag (entries_read beside)) (entries_read sources)
  by_each h =
      subst (λ l. AllByRecursion (IsFaultless tag l) (entries_read sources)) (of_read m beside) (each tag (files_read m beside) n sources.resources.items (junk_read sources) have_beside h)

  by_read : (grouping : Grouping) (references : List ReadFile) → IsFaultlessBy grouping tag (record { beside = files_read m beside; own = files_read n sources; references = references })
      → AreFaultlessBy grouping tag (entries_read beside) (entries_read sources)
  by_read Together references h =
      subst (AreFaultless tag) (entries_both (files_read m beside) (files_read n sources) ∙ (ap (λ l. l ++ entries_in (files_read n sources)) (of_read m beside) ∙ ap (λ l. entries_read beside ++ l) (of_read n sources)))
      (faultless_files tag (files_read m beside ++ files_read n sources) (have_both (files_read m beside) (files_read n sources) have_beside (have_read n sources.resources.items (junk_read sources))) h)
  by_read Each references h = by_each h
  by_read Pairs references h = by_each h

  pub faultless_by : (grouping : Grouping) (g : Group) (references : List ReadFile) → g ≡ record { beside = files_read m beside; own = files_read n sources; references = references } → IsFaultlessBy grouping tag g
      → AreFaultlessBy grouping tag (entries_read beside) (entries_read sources)
  faultless_by grouping g references is h = by_read grouping references (subst (IsFaultlessBy grouping tag) is h)
