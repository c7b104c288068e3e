-- Values and attributes of files, with the files in which they stand; and findings at them.
use Rattle.std.specs.Prelude.{◌≡◌, ℕ, List, [], ◌∷◌, ◌++◌, map, get_or, Some}
use Rattle.std.specs.declared.vec.Vec.{Vec}
use Rattle.std.proofs.Common.{Global}
use Rattle.fluent_patterns.specs.Found.{Spot, Found, Flaw, Part, whole, the_reference, the_select, the_variant, Problem}
use Rattle.fluent_sources.specs.ReadFiles.{ReadFile}
use Rattle.fluent_sources.specs.Sites.{Site}
use Rattle.fluent_sources.specs.SiteView.{site_view}
use Rattle.fluent_sources.specs.declared.standing.Standing as of_file

-- the number of a file, and a value or an attribute in it
abbrev pub Standing : Type 0
Standing = ℕ × Site

abbrev pub standing_view : of_file.Standing → Standing
standing_view s = (s.file, site_view s.site.now)

abbrev pub standings : Vec of_file.Standing Global → List Standing
standings list = map standing_view list.items

-- those of a file
abbrev pub standings_of : ReadFile → List Standing
standings_of file = map (λ site. (file.number, site)) file.sites

-- those of files, in order
abbrev pub standings_in : List ReadFile → List Standing
standings_in [] = []
standings_in (file ∷ files) = standings_of file ++ standings_in files

abbrev pub AddsStanding : List Standing → Vec of_file.Standing Global → Vec of_file.Standing Global → Type 0
AddsStanding more old new = standings new ≡ standings old ++ more

-- ---- findings

-- where it stands
abbrev pub spot_of : Standing → Spot
spot_of s = record { file = s.0; at = s.1.at }

-- the byte where a part stands; where that isn't known, the byte of its value or attribute
abbrev pub byte_of : Site → Part → ℕ
byte_of site whole = site.at
byte_of site (the_reference n) = get_or site.offsets.references n site.at
byte_of site (the_select n) = get_or site.offsets.selects n site.at
byte_of site (the_variant n) = get_or site.offsets.variants n site.at

-- what is wrong with a part of a value or an attribute
abbrev pub found_at : Standing → Part → Problem → Found
found_at s part problem =
    record { spot = record { file = s.0; at = byte_of s.1 part }; place = Some s.1.place; problem = problem }

abbrev pub flaws_at : Standing → List Flaw → List Found
flaws_at s flaws = map (λ flaw. found_at s flaw.0 flaw.1) flaws
