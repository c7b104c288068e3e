-- What composed bundles mean: those with a plural source that have nothing else, by what the types of their parts state.
use Rattle.std.specs.Prelude.{Bool, List, [], ◌∷◌, Option, Some, codes}
use Rattle.fluent_ast.specs.Tree.{Text, Entry}
use Rattle.fluent_semantics.specs.Bundle.{Bundle, Function, add_function, add_resource, after_all, empty_bundle, set_formatter, set_transform}
use Rattle.fluent_semantics.specs.Value.{Value, Plurals}
use Rattle.fluent_bundle.specs.BundleView.{custom_by}

module _ {M : Type 0} (category : M → Plurals) (shown : Text → Text) (alike : Text → Text → Bool) where
  -- but for this formatter, which looks at the plural source
  abbrev pub showing : {G : Type 0} → (G → Value Text → M → Option Text) → M → G → Bundle Text
  showing formatted intls formatter =
      after_all (set_formatter (Some (λ v. formatted formatter v intls)) ∷ []) (empty_bundle (category intls) (custom_by shown alike))

  -- but for this transform, a function `F` and what a resource has
  abbrev pub calling : {F X : Type 0} → (F → Function Text) → (X → Text → Text) → M → X → F → List Entry → Bundle Text
  calling answer changed intls transform function entries =
      after_all (set_transform (Some (changed transform)) ∷ add_function (codes "F") (answer function) ∷ add_resource entries ∷ [])
      (empty_bundle (category intls) (custom_by shown alike))
