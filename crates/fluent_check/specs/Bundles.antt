-- Bundles of the code, by the entries of its resources.
use Rattle.std.specs.Prelude.{◌≡◌, true, List, [], ◌∷◌, ◌++◌, map, None}
use Rattle.std.specs.declared.vec.Vec.{Vec}
use Rattle.std.proofs.Common.{Global}
use Rattle.fluent_ast.specs.Tree.{Text, Entry}
use Rattle.fluent_plural_rules.specs.RuleTexts.{category_of}
use Rattle.fluent_plural_rules.specs.declared.rule_texts.RuleTexts.{RuleTexts}
use Rattle.fluent_semantics.specs.Value.{error_value}
use Rattle.fluent_semantics.specs.Bundle.{Bundle, after, add_resource}
use Rattle.fluent_values.specs.declared.formatter.NoFormatter.{NoFormatter}
use Rattle.fluent_values.specs.declared.function.NoFunction.{NoFunction}
use Rattle.fluent_values.specs.declared.transform.NoTransform.{NoTransform}
use Rattle.fluent_values.specs.declared.types.custom.NoCustom.{NoCustom}
use Rattle.fluent_places.specs.Places.{Names, names_of}
use Rattle.fluent_bundle.specs.BundleView.{meant}
use Rattle.fluent_resource.specs.ResourceView.{entries_of}
use Rattle.fluent_bundle.specs.declared.bundle.FluentBundle.{FluentBundle}
use Rattle.fluent_resource.specs.declared.resource.FluentResource.{FluentResource}
use Rattle.fluent_check.specs.Languages.{bundle_with}

abbrev pub Code : Type 0
Code = FluentBundle RuleTexts NoCustom NoFunction NoFormatter NoTransform

abbrev pub bundle_view : Code → Bundle Text
bundle_view =
    meant category_of (λ t. []) (λ s t. true) (λ f vs as'. error_value) (λ g v m. None) (λ x t. t)

-- the entries of a resource are added
abbrev pub adding : FluentResource → Bundle Text → Bundle Text
adding resource b = after (add_resource (entries_of resource)) b

-- a bundle of a resource, with functions and those that are loaded before it
abbrev pub resource_bundle : Text → List Text → List (List Entry) → FluentResource → Bundle Text
resource_bundle tag functions beside resource = bundle_with tag functions beside (entries_of resource)

-- one more bundle was added, whatever comes after it
abbrev pub AddsBundle : Text → List Text → List (List Entry) → FluentResource → Vec Code Global → Vec Code Global → Type 0
AddsBundle tag functions beside r old new =
    (rest : List (Bundle Text)) → map bundle_view new.items ++ rest ≡ map bundle_view old.items ++ resource_bundle tag functions beside r ∷ rest

-- what ids name in a bundle of the code
abbrev pub names_by : Code → Names Text
names_by bundle = names_of (bundle_view bundle)
