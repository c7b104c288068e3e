-- An argument that is read and set.
use Rattle.std.specs.Prelude.{◌≡◌, ℕ, List, Some, None}
use Rattle.fluent_ast.specs.Tree.{Text}
use Rattle.fluent_semantics.specs.Arguments.{Map, set}
use Rattle.fluent_semantics.specs.Value.{Value}
use Rattle.fluent_answers.specs.Records.{HasTexts, Record, one_record}
use Rattle.fluent_answers.specs.Values.{record_value}
use Rattle.fluent_answers.specs.declared.fault.Fault.{Fault}
use Rattle.fluent_answers.specs.declared.fault.Fault.TheVariants as fault

-- There is this one, and something after it.
pub record IsOne (rest : List ℕ) (one : Record) (after : List ℕ) : Type 0 where
  pub some : one_record rest ≡ Some (one, after)
  pub texts : HasTexts one

-- There is one.
pub record HasOne (rest after : List ℕ) : Type 0 where
  pub one : Record
  pub is : IsOne rest one after

-- The same, and it was set.
pub record SetsOne (rest after : List ℕ) (old new : Map (Value Text)) : Type 0 where
  pub has : HasOne rest after
  pub are : new ≡ set has.one.name (record_value has.one) old

-- One has something that is no text.
pub record HasNoText (rest : List ℕ) : Type 0 where
  pub one : Record
  pub after : List ℕ
  pub some : one_record rest ≡ Some (one, after)
  pub none : ¬ (HasTexts one)

-- why none was set
abbrev pub HasNotOne : List ℕ → Fault → Type 0
HasNotOne rest fault.Cut = one_record rest ≡ None
HasNotOne rest fault.NotText = HasNoText rest
HasNotOne rest fault.Memory = (after : List ℕ) × HasOne rest after
