-- What the calls of arguments find and leave.
use Rattle.std.specs.Prelude.{◌≡◌, Option, None}
use Rattle.std.specs.Option.{option_map}
use Rattle.std.specs.Borrow.{Bor}
use Rattle.std.specs.Cow.{cow_str_bytes}
use Rattle.std.specs.declared.borrow.CowStr.{CowStr}
use Rattle.std.proofs.Common.{Global}
use Rattle.fluent_ast.specs.Tree.{Text}
use Rattle.fluent_semantics.specs.Arguments.{get, set}
use Rattle.fluent_values.specs.View.{value_view, named}
use Rattle.fluent_values.specs.declared.types.value.FluentValue.{FluentValue}
use Rattle.fluent_values.specs.declared.args.FluentArgs.{FluentArgs}

-- the value of a name, where there is one
abbrev pub Finds : {C : Type 0} → (C → Text) → Text → FluentArgs C → Option (Bor (FluentValue C)) → Type 0
Finds content name args found = option_map (λ v. value_view content v.now) found ≡ get name (named content args)

-- there is no value of the name
abbrev pub Lacks : {C : Type 0} → (C → Text) → CowStr Global → FluentArgs C → Type 0
Lacks content name args = get (cow_str_bytes name) (named content args) ≡ None

-- the name has the value, and all else is as before
abbrev pub Sets : {C : Type 0} → (C → Text) → CowStr Global → FluentValue C → FluentArgs C → FluentArgs C → Type 0
Sets content name value args args' =
    named content args' ≡ set (cow_str_bytes name) (value_view content value) (named content args)
