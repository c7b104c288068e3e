-- Arguments one after another.
use Rattle.std.specs.Prelude.{map, Option, Some}
use Rattle.std.specs.Borrow.{Bor}
use Rattle.std.specs.Cow.{cow_str_bytes}
use Rattle.std.specs.Slice.Iter.{iter_rest}
use Rattle.std.specs.Vec.Iter.{into_iter_items}
use Rattle.std.specs.declared.borrow.CowStr.{CowStr}
use Rattle.std.proofs.Common.{Global}
use Rattle.fluent_ast.specs.Tree.{Text}
use Rattle.fluent_semantics.specs.Value.{Value}
use Rattle.fluent_semantics.specs.Arguments.{Map}
use Rattle.fluent_values.specs.View.{value_view}
use Rattle.fluent_values.specs.declared.types.value.FluentValue.{FluentValue}
use Rattle.fluent_values.specs.declared.args.ArgsIter.{ArgsIter}
use Rattle.fluent_values.specs.declared.args.ArgsIntoIter.{ArgsIntoIter}

-- a name with its value, by content
abbrev pub pair_view : {C : Type 0} → (C → Text) → CowStr Global × FluentValue C → Text × Value Text
pair_view content p = (cow_str_bytes p.0, value_view content p.1)

-- the same of one that is borrowed
abbrev pub borrowed_view : {C : Type 0} → (C → Text) → Bor Text × Bor (FluentValue C) → Text × Value Text
borrowed_view content p = (p.0.now, value_view content p.1.now)

-- what an iterator has left to give
unfoldable pub shown_left : {C : Type 0} → (C → Text) → ArgsIter C → Map (Value Text)
shown_left content s = map (pair_view content) (iter_rest s.inner)

unfoldable pub given_left : {C : Type 0} → (C → Text) → ArgsIntoIter C → Map (Value Text)
given_left content s = map (pair_view content) (into_iter_items s.inner)

-- an iterator can give something at its first call
abbrev pub CanGive : {S A : Type 0} → (S → Option A → S → Type 0) → S → Type 0
CanGive {A = A} steps s = (first : A) × (after : _) × steps s (Some first) after
