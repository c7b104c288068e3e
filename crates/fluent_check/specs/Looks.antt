-- All that is found in files, group by group.
use Rattle.std.specs.Prelude.{◌≡◌, ◌&&◌, ℕ, suc, Bool, true, List, [], ◌∷◌, ◌++◌, length, map, Option, Some, None}
use Rattle.std.specs.Borrow.{Bor}
use Rattle.std.specs.List.{AllByRecursion}
use Rattle.fluent_ast.specs.Tree.{Text}
use Rattle.fluent_semantics.specs.Bundle.{Bundle}
use Rattle.fluent_places.specs.Asked.{texts}
use Rattle.fluent_places.specs.Places.{Place, Names, names_of}
use Rattle.fluent_clean.specs.declared.finding.Finding as lint
use Rattle.fluent_patterns.specs.Categories.{Categories, categories_of, no_categories}
use Rattle.fluent_patterns.specs.Found as found
use Rattle.fluent_patterns.specs.Found.{found_in}
use Rattle.fluent_patterns.specs.Terms.{TellsAskedAt}
use Rattle.fluent_check.specs.Called.{with_functions}
use Rattle.fluent_check.specs.Differences.{AreDifferences, reference_names}
use Rattle.fluent_check.specs.Faultless.{tag_of}
use Rattle.fluent_sources.specs.Groups.{Group, all_in, entries_loaded, groups_of, loaded}
use Rattle.fluent_check.specs.Languages.{all_of}
use Rattle.fluent_check.specs.Linted.{AreLinted, is_none}
use Rattle.fluent_check.specs.Patterns.{Against, called_in, found_in_patterns, found_selects}
use Rattle.fluent_check.specs.Places.{first_at, place_of, places_of}
use Rattle.fluent_sources.specs.Ids.{found_ids}
use Rattle.fluent_sources.specs.ReadFiles.{ReadFile}
use Rattle.fluent_sources.specs.Standing.{Standing, standings_in}
use Rattle.fluent_check.specs.Tried.{is_shown}
use Rattle.fluent_sources.specs.Unreadable.{unreadable}
use Rattle.fluent_check.specs.Whole.{found_wholes, whole_problems}
use Rattle.fluent_check.specs.declared.checking.Found.{Found}
use Rattle.fluent_check.specs.declared.checking.Settings.{Settings}

-- ---- of a group

-- its bundle, by the settings' language
abbrev pub bundle_in : Settings → Group → Bundle Text
bundle_in settings g = all_of (tag_of settings.language) (entries_loaded g)

abbrev pub named_in : Settings → Group → Names Text
named_in settings g = names_of (bundle_in settings g)

-- its values and attributes, and those that stand in its bundle, each where it stands first
abbrev pub standings_loaded : Group → List Standing
standings_loaded g = standings_in (loaded g)

abbrev pub places_in : Settings → Group → List Standing
places_in settings g = places_of (named_in settings g) (standings_loaded g)

-- the bundle with each function that its patterns call
abbrev pub linted_bundle : Settings → Group → Bundle Text
linted_bundle settings g = with_functions (called_in (named_in settings g) (places_in settings g)) (bundle_in settings g)

abbrev pub categories_if : Option (Bor Text) → Bool → Categories
categories_if None all = no_categories
categories_if (Some tag) all = categories_of tag.now all

-- What is known of a group: a test of whether a place asks for a variable, the differences from its references, and what the linter lists.
pub record Look : Type 0 where
  pub group : Group
  pub asks : Place → Text → Bool
  pub differences : List found.Found
  pub linted : List lint.Finding

-- this is right
pub record IsLook (settings : Settings) (look : Look) : Type 0 where
  pub asks : AllByRecursion (TellsAskedAt (named_in settings look.group) look.asks) (map place_of (places_in settings look.group))
  pub differences : AreDifferences look.group (named_in settings look.group) (places_in settings look.group) look.differences
  pub linted : AreLinted (linted_bundle settings look.group) (entries_loaded look.group) look.linted

-- what is wrong in patterns
abbrev pub found_patterns : Settings → Group → (Place → Text → Bool) → List found.Found
found_patterns settings g asks =
    let named = named_in settings g in
    found_in_patterns (record { named = named; functions = texts settings.functions.now; asks = asks }) (places_in settings g)
    ++ found_selects named (reference_names g) (categories_if settings.language settings.has_all_categories) (places_in settings g)

-- all that is found in a group
abbrev pub found_in_look : Settings → Look → List found.Found
found_in_look settings look =
    found_ids (standings_loaded look.group)
    ++ (found_patterns settings look.group look.asks
    ++ (look.differences
    ++ found_wholes (λ x. first_at x (places_in settings look.group)) (whole_problems (is_shown (linted_bundle settings look.group)) look.linted)))

-- ---- of all groups

abbrev pub found_in_looks : Settings → List Look → List found.Found
found_in_looks settings [] = []
found_in_looks settings (look ∷ looks) = found_in_look settings look ++ found_in_looks settings looks

-- the linter lists nothing of any group
abbrev pub none_listed : List Look → Bool
none_listed [] = true
none_listed (look ∷ looks) = is_none look.linted && none_listed looks

-- what is found in files: what can't be read, and what is found in each group
pub record IsFound (settings : Settings) (files : Group) (all : Found) : Type 0 where
  pub looks : List Look
  pub groups : map (λ look. look.group) looks ≡ groups_of settings.grouping files
  pub right : AllByRecursion (IsLook settings) looks
  pub findings : found_in all.findings ≡ unreadable (all_in files) ++ found_in_looks settings looks
  pub clean : all.is_clean ≡ none_listed looks
