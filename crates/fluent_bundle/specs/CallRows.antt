-- Which calls take no memory: the setters, whatever they set, and no call that adds.
use Rattle.std.specs.Prelude.{ℕ, Bool, List, Option}
use Rattle.std.specs.Borrow.{Bor}
use Rattle.fluent_bundle.specs.Calls.{IsSetting}
use Rattle.fluent_bundle.specs.declared.calls.Call.TheVariants.{AddResource, AddResourceOverriding, AddFunction, AddBuiltins, SetUseIsolating, SetTransform, SetFormatter, SetPlaceableLimit}
use Rattle.fluent_resource.specs.declared.resource.FluentResource.{FluentResource}

pub record Memory (F G X : Type 0) : Type 0 where
  pub isolating : (on : Bool) → IsSetting {F = F} {G = G} {X = X} (SetUseIsolating on)
  pub transform : (x : Option X) → IsSetting {F = F} {G = G} {X = X} (SetTransform x)
  pub formatter : (g : Option G) → IsSetting {F = F} {G = G} {X = X} (SetFormatter g)
  pub limit : (n : ℕ) → IsSetting {F = F} {G = G} {X = X} (SetPlaceableLimit n)
  pub builtins : IsSetting {F = F} {G = G} {X = X} AddBuiltins → ⊥
  pub function : (id : Bor (List ℕ)) (f : F) → IsSetting {F = F} {G = G} {X = X} (AddFunction id f) → ⊥
  pub resource : (r : Bor FluentResource) → IsSetting {F = F} {G = G} {X = X} (AddResource r) → ⊥
  pub overriding : (r : Bor FluentResource) → IsSetting {F = F} {G = G} {X = X} (AddResourceOverriding r) → ⊥
