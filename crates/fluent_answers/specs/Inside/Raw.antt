-- Records before their texts are known to be UTF-8.
use Rattle.std.specs.Prelude.{◌≡◌, ℕ, List, Option, Some, None}
use Rattle.std.specs.Borrow.{Bor}
use Rattle.fluent_answers.specs.ArgumentView.{argument_view}
use Rattle.fluent_answers.specs.Records.{HasTexts, Record}
use Rattle.fluent_answers.specs.declared.argument.Argument.{Argument}
use Rattle.fluent_answers.specs.declared.reading.Raw.{Raw}

abbrev pub raw_view : Raw → Record
raw_view r = record { name = r.name.now; kind = r.kind; value = r.value.now }

abbrev pub bytes_view : Bor (List ℕ) → List ℕ
bytes_view b = b.now

-- the same record, where its name and its value are UTF-8
abbrev pub TextsOf : Record → Option Argument → Type 0
TextsOf r None = ¬ (HasTexts r)
TextsOf r (Some t) = (argument_view t ≡ r) × HasTexts r
