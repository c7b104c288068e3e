-- The values and attributes of files, and the variables that each asks for.
use Rattle.std.specs.Prelude.{◌≡◌, List, map, codes}
use Rattle.fluent_ast.specs.Tree.{Text}
use Rattle.fluent_places.specs.Asked.{AreAskedIn}
use Rattle.fluent_places.specs.Places.{Place, Names, names_of, views}
use Rattle.fluent_check.specs.Languages.{all_of}
use Rattle.fluent_check.specs.Places.{place_of, places_of}
use Rattle.fluent_sources.specs.ReadFiles.{ReadFile, entries_in}
use Rattle.fluent_sources.specs.Standing.{Standing, standings_in}
use Rattle.fluent_check.specs.declared.listing.Listing.{Listing}

-- the names of a bundle of all the files
abbrev pub listed_names : List ReadFile → Names Text
listed_names files = names_of (all_of (codes "en") (entries_in files))

-- the values and attributes of some that stand in a bundle, each where it stands first
abbrev pub listed : Names Text → List Standing → List Place
listed names ss = map place_of (places_of names ss)

-- These are all, and what each asks for.
pub record ListsAll (names : Names Text) (ss : List Standing) (listing : Listing) : Type 0 where
  pub places : views listing.places.items ≡ listed names ss
  pub asked : AreAskedIn names (listed names ss) listing.asked

abbrev pub listed_places : List ReadFile → List Place
listed_places files = listed (listed_names files) (standings_in files)

-- the same of all that stand in files
abbrev pub IsListing : List ReadFile → Listing → Type 0
IsListing files = ListsAll (listed_names files) (standings_in files)
