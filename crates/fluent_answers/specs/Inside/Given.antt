-- Answers in bytes, and those that are kept.
use Rattle.std.specs.Prelude.{◌≡◌, ℕ, List, Option, Some, None, if◌then◌else◌}
use Rattle.std.specs.BTreeMap.{BTreeMap}
use Rattle.std.specs.Str.{bytes_eq}
use Rattle.std.proofs.Common.{Global, Vec}
use Rattle.fluent_answers.specs.Answered.{Given as Part, first_answer, kept_answer}
use Rattle.fluent_answers.specs.Records.{HasTextValue, Record}
use Rattle.fluent_answers.specs.declared.answer.Answer.{Answer}
use Rattle.fluent_answers.specs.declared.answers.given.Given.{Given}

abbrev pub given_view : Given → Record
given_view g = record { name = g.question.now; kind = g.kind; value = g.value.now }

-- the same record, where its value is UTF-8
abbrev pub TextOf : Record → Option Given → Type 0
TextOf r None = ¬ (HasTextValue r)
TextOf r (Some g) = (given_view g ≡ r) × HasTextValue r

-- of each question the first answer is kept
abbrev pub KeepsFirst : List Record → BTreeMap (Vec ℕ Global) Answer → Type 0
KeepsFirst records rows = (q : List ℕ) → kept_answer rows q ≡ first_answer q records

abbrev pub otherwise : Option Part → Option Part → Option Part
otherwise None next = next
otherwise (Some a) next = Some a

-- what a record answers to a question
abbrev pub answer_by : Record → List ℕ → Option Part
answer_by r q = if bytes_eq r.name q then Some (r.kind, r.value) else None

-- a record is kept as well, unless there is an answer to its question
abbrev pub AddsFirst : Record → BTreeMap (Vec ℕ Global) Answer → BTreeMap (Vec ℕ Global) Answer → Type 0
AddsFirst r rows rows' = (q : List ℕ) → kept_answer rows' q ≡ otherwise (kept_answer rows q) (answer_by r q)
