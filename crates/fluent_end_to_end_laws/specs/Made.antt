-- The bundle that calls make, by the texts of its sources alone.
use Rattle.std.specs.Prelude.{Bool, List, map, Option}
use Rattle.std.specs.Option.{option_map}
use Rattle.std.specs.declared.vec.Vec.{Vec}
use Rattle.std.proofs.Common.{Global}
use Rattle.fluent_ast.specs.Tree.{Text}
use Rattle.fluent_syntax.specs.Chunks.{entries}
use Rattle.fluent_semantics.specs.Value.{Value, Custom, Plurals}
use Rattle.fluent_semantics.specs.Bundle.{Bundle, Function, Call, add_resource, add_resource_overriding, add_function, add_builtins, set_use_isolating, set_transform, set_formatter, set_placeable_limit, empty_bundle, after_all}
use Rattle.fluent_bundle.specs.BundleView.{custom_by}
use Rattle.fluent_end_to_end_laws.specs.declared.Asked.{Asked}
use Rattle.fluent_end_to_end_laws.specs.declared.Asked.TheVariants as asked

-- What is asked for adds the entries that the grammar reads in its source; objects mean what their types state.
abbrev pub step : {M F G X : Type 0} → (F → Function Text) → (G → Value Text → M → Option Text)
    → (X → Text → Text) → M → Asked F G X → Call Text
step answer formatted changed intls (asked.AddResource source) = add_resource (entries source.now)
step answer formatted changed intls (asked.AddResourceOverriding source) =
    add_resource_overriding (entries source.now)
step answer formatted changed intls (asked.AddFunction id f) = add_function id.now (answer f)
step answer formatted changed intls asked.AddBuiltins = add_builtins
step answer formatted changed intls (asked.SetUseIsolating on) = set_use_isolating on
step answer formatted changed intls (asked.SetTransform x) = set_transform (option_map changed x)
step answer formatted changed intls (asked.SetFormatter g) =
    set_formatter (option_map (λ f v. formatted f v intls) g)
step answer formatted changed intls (asked.SetPlaceableLimit n) = set_placeable_limit n

-- an empty bundle after calls
abbrev pub bundle_after : Plurals → Custom Text → List (Call Text) → Bundle Text
bundle_after plurals custom calls = after_all calls (empty_bundle plurals custom)

-- the bundle that calls make of an empty one, under a plural source
abbrev pub made : {M F G X : Type 0} → (M → Plurals) → (Text → Text)
    → (Text → Text → Bool) → (F → Function Text) → (G → Value Text → M → Option Text)
    → (X → Text → Text) → M → Vec (Asked F G X) Global → Bundle Text
made category shown alike answer formatted changed intls calls =
    bundle_after (category intls) (custom_by shown alike)
    (map (step answer formatted changed intls) calls.items)
