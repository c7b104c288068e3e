-- Worked rows of what the linter finds of whole places.
use Rattle.std.specs.Prelude.{◌≡◌, ℕ, Bool, [], ◌∷◌, true, false, Some, None}
use Rattle.fluent_places.specs.Places.{Place, place_view}
use Rattle.fluent_clean.specs.declared.finding.Kind.TheVariants as kind
use Rattle.fluent_places.specs.declared.place.Place as code
use Rattle.fluent_patterns.specs.Found.{leads_to, may_open_too_many, too_many_placeables}
use Rattle.fluent_check.specs.Whole.{all_lead_on, second_or, whole_problem, whole_problems}

pub record Rows : Type 0 where
  pub no_finding : (shown : Place → Bool) → whole_problems shown [] ≡ []
  -- of a cycle
  pub itself : (x y : Place) → second_or x (y ∷ []) ≡ x
  pub next : (x y z w : Place) → second_or x (y ∷ z ∷ w ∷ []) ≡ z
  -- of too many placeables, shown and not shown
  pub too_many : (x : Place) (count limit : ℕ) → whole_problem (λ y. true) false x (kind.TooManyPlaceables count limit) ≡ Some (too_many_placeables count limit)
  pub may_open : (x : Place) (count limit : ℕ) → whole_problem (λ y. false) false x (kind.TooManyPlaceables count limit) ≡ Some (may_open_too_many count limit)
  -- to another that isn't clean, or that stands elsewhere
  pub alone : (shown : Place → Bool) (x : Place) (y : code.Place) → whole_problem shown true x (kind.LeadsTo y) ≡ Some (leads_to (place_view y))
  pub elsewhere_alone : (shown : Place → Bool) (x : Place) (y : code.Place) → whole_problem shown true x (kind.Elsewhere y) ≡ Some (leads_to (place_view y))
  pub not_alone : (shown : Place → Bool) (x : Place) (y : code.Place) → whole_problem shown false x (kind.LeadsTo y) ≡ None
  -- what is missing is told of the references
  pub missing : (shown : Place → Bool) (x : Place) → whole_problem shown true x kind.NoDefault ≡ None
