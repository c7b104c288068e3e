-- The named arguments of a call, while they are gathered, by content.
use Rattle.std.specs.Prelude.{List, map}
use Rattle.std.specs.Cow.{cow_str_bytes}
use Rattle.std.specs.declared.borrow.CowStr.{CowStr}
use Rattle.std.specs.declared.vec.Vec.{Vec}
use Rattle.std.proofs.Common.{Global}
use Rattle.fluent_ast.specs.Tree.{Text}
use Rattle.fluent_semantics.specs.Value.{Value}
use Rattle.fluent_semantics.specs.Arguments.{Map, set}
use Rattle.fluent_bundle_entries.specs.EntryView.{by_name}
use Rattle.fluent_values.specs.View.{value_view, named}
use Rattle.fluent_values.specs.declared.types.value.FluentValue.{FluentValue}
use Rattle.fluent_resolver_state.specs.declared.gathered.Gathered.{Gathered}
use Rattle.fluent_resolver_state.specs.declared.gathered.Gathered.TheVariants as so_far

-- what each name means among the entries of a tree
abbrev pub of_entries : {C : Type 0} → (C → Text) → List (CowStr Global × FluentValue C) → Map (Value Text)
of_entries content es = by_name (map (λ e. (cow_str_bytes e.0, value_view content e.1)) es)

-- what each name means so far
abbrev pub gathered : {C : Type 0} → (C → Text) → Gathered C → Map (Value Text)
gathered content (so_far.Few args) = named content args
gathered content (so_far.Many tree) = of_entries content tree.entries

-- what each name means with one more, in place of what it meant
abbrev pub with_value : {C : Type 0} → (C → Text) → CowStr Global → FluentValue C → Map (Value Text) → Map (Value Text)
with_value content name v = set (cow_str_bytes name) (value_view content v)

-- what a list of values means
abbrev pub values_of : {C : Type 0} → (C → Text) → Vec (FluentValue C) Global → List (Value Text)
values_of content vs = map (value_view content) vs.items
