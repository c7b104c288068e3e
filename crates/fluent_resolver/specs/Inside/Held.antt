-- A call whose arguments are gathered, by content.
use Rattle.std.specs.Prelude.{ℕ, ◌++◌, Option, drop}
use Rattle.fluent_ast.specs.References.{in_named, in_positional, inlines_view, nameds_view}
use Rattle.fluent_ast.specs.Tree.{Text, Inlines, Nameds}
use Rattle.fluent_ast.specs.declared.ast.CallArguments as of_call
use Rattle.fluent_references.specs.Cursors.{seen}
use Rattle.fluent_references.specs.Links.{IsBefore}
use Rattle.fluent_resolver_state.specs.Gathered.{gathered, values_of}
use Rattle.fluent_resolver.specs.Inside.Parts.{Held}
use Rattle.fluent_resolver.specs.declared.frame.Gathering.{Gathering}

-- the arguments that are left
abbrev pub more : {C : Type 0} → Gathering C → Inlines
more g = inlines_view (drop g.remaining.taken (of_call.out-CallArguments g.remaining.arguments.now).positional.items)

abbrev pub more_named : {C : Type 0} → Gathering C → Nameds
more_named g = nameds_view (drop g.remaining.taken_named (of_call.out-CallArguments g.remaining.arguments.now).named.items)

abbrev pub held : {C : Type 0} → (C → Text) → Gathering C → Held
held content g = record { values = values_of content g.positional; map = gathered content g.named; more = more g; more_named = more_named g }

-- its cursor stands before the arguments that are left
abbrev pub IsBeforeMore : {C : Type 0} → (Text → Option ℕ) → Gathering C → Type 0
IsBeforeMore number g = IsBefore number (in_positional (more g) ++ in_named (more_named g)) (seen g.remaining.cursor)

-- and so it does again
abbrev pub StaysPlaced : {C : Type 0} → Gathering C → Gathering C → Type 0
StaysPlaced g g' = (number : Text → Option ℕ) → IsBeforeMore number g → IsBeforeMore number g'
