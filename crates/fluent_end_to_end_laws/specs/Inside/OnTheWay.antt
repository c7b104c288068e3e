-- What calls ask for, between their sources and the entries that are read in these.
use Rattle.std.specs.Prelude.{◌≡◌, List, [], map, Option}
use Rattle.fluent_ast.specs.Tree as t
use Rattle.fluent_ast.specs.Tree.{Text}
use Rattle.fluent_semantics.specs.Value.{Value}
use Rattle.fluent_semantics.specs.Bundle.{Function, Call, add_resource, add_resource_overriding}
use Rattle.fluent_syntax.specs.Chunks.{entries}
use Rattle.fluent_resource.specs.ResourceView.{entries_of}
use Rattle.fluent_bundle.specs.Calls.{asks}
use Rattle.fluent_bundle.specs.declared.calls.Call as code
use Rattle.fluent_resource.specs.declared.resource.FluentResource.{FluentResource}
use Rattle.fluent_end_to_end_laws.specs.Made.{step}
use Rattle.fluent_end_to_end_laws.specs.declared.Asked.{Asked}
use Rattle.fluent_end_to_end_laws.specs.declared.Asked.TheVariants as asked

-- the source of a call's resource, empty where it has none
abbrev pub source_of : {F G X : Type 0} → Asked F G X → Text
source_of (asked.AddResource source) = source.now
source_of (asked.AddResourceOverriding source) = source.now
source_of _ = []

-- Resources hold what is read in the sources of calls.
abbrev pub AreReadFor : {F G X : Type 0} → List (Asked F G X) → List FluentResource → Type 0
AreReadFor calls resources =
    map entries_of resources ≡ map (λ call. entries (source_of call)) calls

-- a step with the entries that were read for it
abbrev pub step_over : {M F G X : Type 0} → (F → Function Text)
    → (G → Value Text → M → Option Text) → (X → Text → Text) → M → Asked F G X → List t.Entry
    → Call Text
step_over answer formatted changed intls (asked.AddResource source) es = add_resource es
step_over answer formatted changed intls (asked.AddResourceOverriding source) es =
    add_resource_overriding es
step_over answer formatted changed intls a es = step answer formatted changed intls a

-- ---- a call on a bundle asks for the same, under any plural source

-- as a step over these entries
abbrev pub AsksOver : {M F G X : Type 0} → (F → Function Text)
    → (G → Value Text → M → Option Text) → (X → Text → Text) → Asked F G X → List t.Entry
    → code.Call F G X → Type 0
AsksOver {M} answer formatted changed a es call =
    (intls : M) → asks answer formatted changed intls call
    ≡ step_over answer formatted changed intls a es

-- as each step over its own source
abbrev pub AskAll : {M F G X : Type 0} → (F → Function Text)
    → (G → Value Text → M → Option Text) → (X → Text → Text) → List (Asked F G X)
    → List (code.Call F G X) → Type 0
AskAll {M} answer formatted changed steps calls =
    (intls : M) → map (asks answer formatted changed intls) calls
    ≡ map (step answer formatted changed intls) steps
