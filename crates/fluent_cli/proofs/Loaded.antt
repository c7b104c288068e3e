-- A bundle of each resource, by its entries.
use Rattle.std.proofs.Common.{◌≡◌, List, [], ◌∷◌, map, refl, ap}
use Rattle.fluent_ast.specs.Tree.{Text, Entry}
use Rattle.fluent_resource.specs.declared.resource.FluentResource.{FluentResource}
use Rattle.fluent_check.specs.Bundles.{resource_bundle}
use Rattle.fluent_sources.specs.Reading.{entries_of_all}
use Rattle.fluent_check.specs.Languages.{bundle_with}

pub each_loaded : (tag : Text) (functions : List Text) (beside : List (List Entry)) (rs : List FluentResource)
    → map (resource_bundle tag functions beside) rs ≡ map (bundle_with tag functions beside) (entries_of_all rs)
each_loaded tag functions beside [] = refl
each_loaded tag functions beside (r ∷ rs) = ap (λ bundles. resource_bundle tag functions beside r ∷ bundles) (each_loaded tag functions beside rs)
