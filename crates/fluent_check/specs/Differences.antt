-- How a translation differs from its reference.
use Rattle.std.specs.Prelude.{◌≡◌, ℕ, nat_le, Bool, true, false, List, [], ◌∷◌, ◌++◌, map, length, Option, Some, None, option_map, codes, if◌then◌else◌}
use Rattle.std.specs.List.{AllByRecursion}
use Rattle.fluent_ast.specs.Tree.{Text, Pattern}
use Rattle.fluent_places.specs.Asked.{AreAsked, list_of, texts}
use Rattle.fluent_places.specs.Places.{Place, of_message, of_term, Names, names_of, place_target}
use Rattle.fluent_places.specs.PlaceView.{pattern_in}
use Rattle.fluent_patterns.specs.Found.{Flaw, Found}
use Rattle.fluent_check.specs.Alone.{Side, unreferenced, untranslated}
use Rattle.fluent_check.specs.Bundles.{bundle_view}
use Rattle.fluent_differences.specs.Compared.{Wording, differences}
use Rattle.fluent_sources.specs.Groups.{Group}
use Rattle.fluent_check.specs.Languages.{all_of}
use Rattle.fluent_check.specs.Places.{keys_of, place_of, places_of}
use Rattle.fluent_sources.specs.ReadFiles.{ReadFile, entries_in}
use Rattle.fluent_sources.specs.Standing.{Standing, flaws_at, standings, standings_in}
use Rattle.fluent_check.specs.declared.referred.Edition as code

-- A translation, or its reference: what ids name in it, where its values and attributes stand first and at which places, and the variables for which each place asks.
pub record Edition : Type 0 where
  pub named : Names Text
  pub standings : List Standing
  pub places : List Place
  pub asked : Place → Option (List Text)

abbrev pub edition_view : code.Edition → Edition
edition_view e = record {
  named = names_of (bundle_view e.bundle.now);
  standings = standings e.places.now.list;
  places = keys_of e.places.now;
  asked = λ x. option_map texts (list_of e.asked x);
}

abbrev pub side_of : Edition → Side
side_of e = record { named = e.named; places = e.places }

-- ---- where both have a value or an attribute

abbrev pub wording_if : Option Pattern → Option (List Text) → Option Wording
wording_if None asked = None
wording_if (Some p) None = None
wording_if (Some p) (Some vs) = Some (record { pattern = p; asked = vs })

-- the pattern that stands at a place, and the variables for which it asks
abbrev pub wording_at : Edition → Place → Option Wording
wording_at e x = wording_if (pattern_in (place_target e.named x)) (e.asked x)

abbrev pub if_both : List Place → Option Wording → Option Wording → List Flaw
if_both places None here = []
if_both places (Some there) None = []
if_both places (Some there) (Some here) = differences places there here

abbrev pub is_of_message : Place → Bool
is_of_message (of_message m a) = true
is_of_message (of_term t a) = false

-- terms are a translation's own
abbrev pub compared : Edition → Edition → Place → List Flaw
compared reference translation x =
    if is_of_message x then if_both translation.places (wording_at reference x) (wording_at translation x) else []

-- ---- what is told

-- of a value or an attribute of the translation
abbrev pub told_here : Edition → Edition → Standing → List Found
told_here reference translation s =
    flaws_at s (compared reference translation (place_of s) ++ unreferenced (side_of reference) (side_of translation) (place_of s))

-- of one of the reference
abbrev pub told_there : Edition → Edition → Standing → List Found
told_there reference translation s = flaws_at s (untranslated (side_of reference) (side_of translation) (place_of s))

-- Of all of them. Files with numbers below `first` stand beside the translation, and aren't compared.
abbrev pub all_here : ℕ → Edition → Edition → List Standing → List Found
all_here first reference translation [] = []
all_here first reference translation (s ∷ ss) =
    (if nat_le first s.0 then told_here reference translation s else []) ++ all_here first reference translation ss

abbrev pub all_there : Edition → Edition → List Standing → List Found
all_there reference translation [] = []
all_there reference translation (s ∷ ss) = told_there reference translation s ++ all_there reference translation ss

abbrev pub all_differences : ℕ → Edition → Edition → List Found
all_differences first reference translation =
    all_here first reference translation translation.standings ++ all_there reference translation reference.standings

-- ---- of a group

-- these are the variables for which a place asks
abbrev pub IsAskedBy : Names Text → (Place → Option (List Text)) → Place → Type 0
IsAskedBy named asked x = (vs : List Text) × (asked x ≡ Some vs) × AreAsked named x vs

-- so it is of each of these places
abbrev pub AreAskedBy : Names Text → List Standing → (Place → Option (List Text)) → Type 0
AreAskedBy named ss asked = AllByRecursion (IsAskedBy named asked) (map place_of ss)

abbrev pub edition_of : Names Text → List Standing → (Place → Option (List Text)) → Edition
edition_of named ss asked = record { named = named; standings = ss; places = map place_of ss; asked = asked }

-- what the references of a group name, and their places
abbrev pub reference_names : Group → Names Text
reference_names g = names_of (all_of (codes "en") (entries_in g.references))

abbrev pub reference_places : Group → List Standing
reference_places g = places_of (reference_names g) (standings_in g.references)

-- These are the differences of a group from its references: what ids name in it, and its places, are given.
pub record AreAllDifferences (g : Group) (named : Names Text) (ss : List Standing) (found : List Found) : Type 0 where
  pub here : Place → Option (List Text)
  pub there : Place → Option (List Text)
  pub asked_here : AreAskedBy named ss here
  pub asked_there : AreAskedBy (reference_names g) (reference_places g) there
  pub found_is : found ≡ all_differences (length g.beside) (edition_of (reference_names g) (reference_places g) there) (edition_of named ss here)

-- there are none where there are no references
abbrev pub AreDifferencesBy : List ReadFile → Group → Names Text → List Standing → List Found → Type 0
AreDifferencesBy [] g named ss found = found ≡ []
AreDifferencesBy (r ∷ rs) g named ss found = AreAllDifferences g named ss found

abbrev pub AreDifferences : Group → Names Text → List Standing → List Found → Type 0
AreDifferences g named ss found = AreDifferencesBy g.references g named ss found
