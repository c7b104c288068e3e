-- What the linter finds of whole values and attributes.
use Rattle.std.specs.Prelude.{ℕ, List, [], ◌∷◌, ◌++◌, map, Bool, true, false, Option, Some, None, option_map}
use Rattle.std.specs.List.{filter_map, list_all}
use Rattle.fluent_places.specs.Places.{Place, place_view, views}
use Rattle.fluent_clean.specs.declared.finding.Finding.{Finding}
use Rattle.fluent_clean.specs.declared.finding.Kind.{Kind}
use Rattle.fluent_clean.specs.declared.finding.Kind.TheVariants as kind
use Rattle.fluent_patterns.specs.Found.{Found, whole, Problem, problem_view, cycle, too_many_placeables, may_open_too_many, leads_to}
use Rattle.fluent_sources.specs.Standing.{Standing, found_at}
use Rattle.fluent_check.specs.declared.whole.Whole.{Whole}

-- a pattern leads to one that isn't clean, or that stands elsewhere
abbrev pub leads_on : Kind → Bool
leads_on (kind.LeadsTo y) = true
leads_on (kind.Elsewhere y) = true
leads_on k = false

abbrev pub all_lead_on : List Finding → Bool
all_lead_on fs = list_all (λ f. leads_on f.kind) fs

-- the second of these, if there is one
abbrev pub second_or : Place → List Place → Place
second_or x [] = x
second_or x (y ∷ []) = x
second_or x (y ∷ z ∷ zs) = z

-- that it leads on, where nothing else is found
abbrev pub if_alone : Bool → Place → Option Problem
if_alone true y = Some (leads_to y)
if_alone false y = None

-- that it opens too many placeables, by whether that is shown
abbrev pub large_problem : Bool → ℕ → ℕ → Problem
large_problem true count limit = too_many_placeables count limit
large_problem false count limit = may_open_too_many count limit

-- By what is shown of a place to open too many placeables:
module _ (shown : Place → Bool) where
  -- what a finding says of a whole place, by whether all findings lead on
  abbrev pub whole_problem : Bool → Place → Kind → Option Problem
  whole_problem alone x (kind.Cycle ys) = Some (cycle (second_or x (views ys.items)))
  whole_problem alone x (kind.TooManyPlaceables count limit) = Some (large_problem (shown x) count limit)
  whole_problem alone x (kind.LeadsTo y) = if_alone alone (place_view y)
  whole_problem alone x (kind.Elsewhere y) = if_alone alone (place_view y)
  whole_problem alone x k = None

  abbrev pub whole_of : Bool → Finding → Option (Place × Problem)
  whole_of alone f = option_map (λ problem. (place_view f.place, problem)) (whole_problem alone (place_view f.place) f.kind)

  -- the problems of whole places, each with its place
  abbrev pub whole_problems : List Finding → List (Place × Problem)
  whole_problems fs = filter_map (whole_of (all_lead_on fs)) fs

-- ---- where they stand

abbrev pub whole_if : Option Standing → Problem → List Found
whole_if None problem = []
whole_if (Some s) problem = found_at s whole problem ∷ []

-- by where a place stands first
abbrev pub found_whole : (Place → Option Standing) → Place × Problem → List Found
found_whole at problem = whole_if (at problem.0) problem.1

abbrev pub found_wholes : (Place → Option Standing) → List (Place × Problem) → List Found
found_wholes at [] = []
found_wholes at (problem ∷ problems) = found_whole at problem ++ found_wholes at problems

-- ---- of the code

abbrev pub whole_view : Whole → Place × Problem
whole_view w = (place_view w.place, problem_view w.problem)

abbrev pub wholes : List Whole → List (Place × Problem)
wholes list = map whole_view list
