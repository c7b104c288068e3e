-- Calls as values: what they ask for, and what a list of them makes of a bundle.
use Rattle.std.specs.Prelude.{◌≡◌, List, [], ◌∷◌, ◌++◌, map, Option, ⊤}
use Rattle.std.specs.Option.{option_map}
use Rattle.fluent_ast.specs.Tree.{Text}
use Rattle.fluent_semantics.specs.Value.{Value}
use Rattle.fluent_semantics.specs.Bundle as m
use Rattle.fluent_semantics.specs.Bundle.{Bundle, Function, after_all}
use Rattle.fluent_bundle.specs.BundleView.{formatter_in, transform_in, KeepsLanguages}
use Rattle.fluent_resource.specs.ResourceView.{entries_of}
use Rattle.fluent_bundle.specs.declared.bundle.FluentBundle.{FluentBundle}
use Rattle.fluent_bundle.specs.declared.calls.Call.{Call}
use Rattle.fluent_bundle.specs.declared.calls.Call.TheVariants as call

-- What a call is among those of Fluent's meaning: by what functions answer, what formatters show under a plural source, and what transforms change a text to.
abbrev pub asks : {M F G X : Type 0} → (F → Function Text) → (G → Value Text → M → Option Text) → (X → Text → Text) → M → Call F G X → m.Call Text
asks answer formatted changed intls (call.AddResource r) = m.add_resource (entries_of r.now)
asks answer formatted changed intls (call.AddResourceOverriding r) = m.add_resource_overriding (entries_of r.now)
asks answer formatted changed intls (call.AddFunction id f) = m.add_function id.now (answer f)
asks answer formatted changed intls call.AddBuiltins = m.add_builtins
asks answer formatted changed intls (call.SetUseIsolating on) = m.set_use_isolating on
asks answer formatted changed intls (call.SetTransform t) = m.set_transform (option_map changed t)
asks answer formatted changed intls (call.SetFormatter g) = m.set_formatter (option_map (λ f v. formatted f v intls) g)
asks answer formatted changed intls (call.SetPlaceableLimit n) = m.set_placeable_limit n

-- the transform that is held after a call
abbrev pub transform_after : {F G X : Type 0} → Call F G X → Option X → Option X
transform_after (call.SetTransform t) held = t
transform_after _ held = held

-- the formatter that is held after a call
abbrev pub formatter_after : {F G X : Type 0} → Call F G X → Option G → Option G
formatter_after (call.SetFormatter g) held = g
formatter_after _ held = held

-- after calls in order
abbrev pub transform_after_all : {F G X : Type 0} → List (Call F G X) → Option X → Option X
transform_after_all [] held = held
transform_after_all (c ∷ cs) held = transform_after_all cs (transform_after c held)

abbrev pub formatter_after_all : {F G X : Type 0} → List (Call F G X) → Option G → Option G
formatter_after_all [] held = held
formatter_after_all (c ∷ cs) held = formatter_after_all cs (formatter_after c held)

-- From old, the calls led to new: by what bundles mean and calls ask for, and in each field that a bundle's meaning does not show.
pub record Makes {M C F G X : Type 0} (of : FluentBundle M C F G X → Bundle Text) (ask : Call F G X → m.Call Text) (calls : List (Call F G X)) (old new : FluentBundle M C F G X) : Type 0 where
  pub meaning : of new ≡ after_all (map ask calls) (of old)
  pub beside : KeepsLanguages old new
  pub transform : transform_in new ≡ transform_after_all calls (transform_in old)
  pub formatter : formatter_in new ≡ formatter_after_all calls (formatter_in old)

-- a call that sets, and takes no memory
abbrev pub IsSetting : {F G X : Type 0} → Call F G X → Type 0
IsSetting (call.SetUseIsolating on) = ⊤
IsSetting (call.SetTransform t) = ⊤
IsSetting (call.SetFormatter g) = ⊤
IsSetting (call.SetPlaceableLimit n) = ⊤
IsSetting _ = ⊥

-- From old, the calls before one that takes memory led to new.
pub record BegunBy {M C F G X : Type 0} (of : FluentBundle M C F G X → Bundle Text) (ask : Call F G X → m.Call Text) (calls : List (Call F G X)) (old new : FluentBundle M C F G X) : Type 0 where
  pub made : List (Call F G X)
  pub alloc_failed : Call F G X
  pub undone : List (Call F G X)
  pub whole : calls ≡ made ++ alloc_failed ∷ undone
  pub takes : IsSetting alloc_failed → ⊥
  pub makes : Makes of ask made old new
