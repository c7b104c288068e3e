-- The functions that files call, by the places of their entries.
use Rattle.std.proofs.Common.{◌≡◌, ◌∙◌, ℕ, suc, ◌&&◌, not, Bool, true, false, List, [], ◌∷◌, ◌++◌, get_or, map, take, drop, Result, Ok, Err, IfOk, IsTrue, refl, sym, ap, subst, if◌then◌else◌}
use Rattle.std.proofs.lemmas.List.{append_assoc, map-append}
use Rattle.fluent_ast.specs.Tree.{Text, Entry}
use Rattle.fluent_semantics.specs.Bundle.{Bundle}
use Rattle.fluent_resource.specs.ResourceView.{entries_of, source_in}
use Rattle.fluent_resource.specs.declared.resource.FluentResource.{FluentResource}
use Rattle.fluent_places.specs.Places as entries
use Rattle.fluent_places.specs.Places.{Place, Names, names_of}
use Rattle.fluent_patterns.specs.Marks.{marks}
use Rattle.fluent_patterns.specs.declared.marks.Mark.{Mark}
use Rattle.fluent_differences.specs.Among.{is_at}
use Rattle.fluent_check.specs.Called.{with_functions}
use Rattle.fluent_check.specs.Faultless.{AreFaultless, called_by}
use Rattle.fluent_check.specs.Inside.Faultless.{AreFaultlessFiles, calling}
use Rattle.fluent_check.specs.Languages.{all_of}
use Rattle.fluent_check.specs.Linted as linted
use Rattle.fluent_check.specs.Linted.{NoneFails}
use Rattle.fluent_check.specs.Patterns.{called_at, called_in}
use Rattle.fluent_check.specs.Places.{first_places, place_of, places_of, stands}
use Rattle.fluent_sources.specs.ReadFiles.{ReadFile, entries_in, file_with, files_with}
use Rattle.fluent_sources.specs.Sites.{Site, offset_or, own_len, sites_at, sites_from, sites_of, start_of}
use Rattle.fluent_sources.specs.Standing.{Standing, standings_in, standings_of}
use Rattle.fluent_check.proofs.Added.{standings_both}

-- ---- by places

called_if_kept : (named : Names Text) (b : Bool) (s : Standing) (kept passed : List Standing) → called_in named (if b then s ∷ kept else passed) ≡ (if b then called_at named s ++ called_in named kept else called_in named passed)
called_if_kept named true s kept passed = refl
called_if_kept named false s kept passed = refl

pub called_same : (named : Names Text) (seen : List Place) (ss : List Standing) → called_in named (first_places named seen ss) ≡ called_by named seen (map place_of ss)
called_same named seen [] = refl
called_same named seen (s ∷ ss) =
    let b = stands named (place_of s) && not (is_at (place_of s) seen) in
    called_if_kept named b s (first_places named (seen ++ place_of s ∷ []) ss) (first_places named seen ss)
    ∙ (ap (λ l. if b then called_at named s ++ l else called_in named (first_places named seen ss)) (called_same named (seen ++ place_of s ∷ []) ss)
    ∙ ap (λ l. if b then called_at named s ++ called_by named (seen ++ place_of s ∷ []) (map place_of ss) else l) (called_same named seen ss))

-- ---- the places of files

at_places : (start at : ℕ) (ps : List Place) (ms : List Mark) → map (λ (site : Site). site.place) (sites_at start at ps ms) ≡ ps
at_places start at [] ms = refl
at_places start at (p ∷ ps) ms = ap (λ l. p ∷ l) (at_places start (offset_or start (drop (own_len ms) ms)) ps (drop 1 (drop (own_len ms) ms)))

from_places : (source : Text) (starts : List ℕ) (es : List Entry) → map (λ (site : Site). site.place) (sites_from source starts es) ≡ entries.places_in es
from_places source starts [] = refl
from_places source starts (e ∷ es) =
    let begin = start_of source starts in
    map-append (λ (site : Site). site.place) (sites_of source begin (start_of source (drop 1 starts)) e) (sites_from source (drop 1 starts) es)
    ∙ (ap (λ l. l ++ map (λ (site : Site). site.place) (sites_from source (drop 1 starts) es)) (at_places begin begin (entries.places_of e) (marks begin (start_of source (drop 1 starts)) source))
    ∙ ap (λ l. entries.places_of e ++ l) (from_places source (drop 1 starts) es))

of_sites : (number : ℕ) (sites : List Site) → map place_of (map (λ (site : Site). (number, site)) sites) ≡ map (λ (site : Site). site.place) sites
of_sites number [] = refl
of_sites number (site ∷ sites) = ap (λ l. site.place ∷ l) (of_sites number sites)

-- the values and attributes of files stand at the places of their entries
abbrev pub HavePlaces : List ReadFile → Type 0
HavePlaces files = map place_of (standings_in files) ≡ linted.places_of (entries_in files)

places_both : (xs ys : List (List Entry)) → linted.places_of (xs ++ ys) ≡ linted.places_of xs ++ linted.places_of ys
places_both [] ys = refl
places_both (x ∷ xs) ys = ap (λ l. entries.places_in x ++ l) (places_both xs ys) ∙ sym (append_assoc (entries.places_in x) (linted.places_of xs) (linted.places_of ys))

pub have_both : (xs ys : List ReadFile) → HavePlaces xs → HavePlaces ys → HavePlaces (xs ++ ys)
have_both xs ys p q =
    ap (map place_of) (standings_both xs ys)
    ∙ (map-append place_of (standings_in xs) (standings_in ys)
    ∙ (ap (λ l. l ++ map place_of (standings_in ys)) p
    ∙ (ap (λ l. linted.places_of (entries_in xs) ++ l) q
    ∙ (sym (places_both (entries_in xs) (entries_in ys)) ∙ ap linted.places_of (sym (map-append (λ (file : ReadFile). file.entries) xs ys))))))

pub have_one : (number : ℕ) (r : FluentResource) (junk : List (ℕ × ℕ)) → HavePlaces (file_with number (source_in r) (entries_of r) junk ∷ [])
have_one number r junk =
    let file = file_with number (source_in r) (entries_of r) junk in
    map-append place_of (standings_of file) []
    ∙ ap (λ l. l ++ []) (of_sites number file.sites ∙ from_places (source_in r) _ (entries_of r))

pub have_read : (number : ℕ) (rs : List FluentResource) (ranges : List (List (ℕ × ℕ))) → HavePlaces (files_with number rs ranges)
have_read number [] ranges = refl
have_read number (r ∷ rs) ranges =
    have_both (file_with number (source_in r) (entries_of r) (get_or ranges 0 []) ∷ []) (files_with (suc number) rs (drop 1 ranges)) (have_one number r (get_or ranges 0 [])) (have_read (suc number) rs (drop 1 ranges))

-- ---- so they are faultless by their entries

pub faultless_files : (tag : Text) (files : List ReadFile) → HavePlaces files → AreFaultlessFiles tag files → AreFaultless tag (entries_in files)
faultless_files tag files have faultless =
    let b = all_of tag (entries_in files) in
    record {
      none = subst (λ ids. NoneFails (with_functions ids b) (entries_in files)) (called_same (names_of b) [] (standings_in files) ∙ ap (called_by (names_of b) []) have) faultless.none;
    }

pub clean_ok : {R : Type 0} (r : Result Bool R) (tag : Text) (files : List ReadFile) (b : Bundle Text) (ss : List Standing) → b ≡ all_of tag (entries_in files) → ss ≡ places_of (names_of (all_of tag (entries_in files))) (standings_in files)
    → IfOk r (λ is. IsTrue is → NoneFails (calling b ss) (entries_in files)) → IfOk r (λ is. IsTrue is → AreFaultlessFiles tag files)
clean_ok (Err e) tag files b ss b_is ss_is clean = clean
clean_ok (Ok z) tag files b ss b_is ss_is clean = λ is.
    record { none = subst (λ l. NoneFails (calling (all_of tag (entries_in files)) l) (entries_in files)) ss_is (subst (λ d. NoneFails (calling d ss) (entries_in files)) b_is (clean is)) }
