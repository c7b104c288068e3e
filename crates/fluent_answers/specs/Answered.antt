-- What a caller answers, by the table of all answers, and what answers that were given have to do with it.
use Rattle.std.specs.Prelude.{◌≡◌, ℕ, List, [], ◌∷◌, Option, Some, None, unwrap_or, if◌then◌else◌}
use Rattle.std.specs.BTreeMap.{BTreeMap, get_by}
use Rattle.std.specs.Cmp.Lexicographic.{slice_cmp}
use Rattle.std.specs.List.{find}
use Rattle.std.specs.Option.{option_map}
use Rattle.std.specs.Ordering.{nat_cmp}
use Rattle.std.specs.Prelude.{string_bytes}
use Rattle.std.specs.Str.{bytes_eq}
use Rattle.std.proofs.Common.{Global, Vec}
use Rattle.fluent_ast.specs.Tree.{Text}
use Rattle.fluent_semantics.specs.Bundle.{Function}
use Rattle.fluent_semantics.specs.Value.{Value, text_value, number_value, custom_value, no_value, error_value}
use Rattle.fluent_answers.specs.Questions.{formatter_question, function_question, transform_question}
use Rattle.fluent_answers.specs.Records.{AreAnswers, Record}
use Rattle.fluent_answers.specs.Tables.{Table}
use Rattle.fluent_answers.specs.Values.{value_of}
use Rattle.fluent_answers.specs.declared.answer.Answer.{Answer}
use Rattle.fluent_answers.specs.declared.kind.Kind.{Kind}

-- ---- by the table of all answers

-- the first answer to a question, and an error to one that the table hasn't
abbrev pub answer_in : Table → List ℕ → Value Text
answer_in [] q = error_value
answer_in (r ∷ rs) q = if bytes_eq r.0 q then value_of r.1.0 r.1.1 else answer_in rs q

-- a function of a name
abbrev pub function_in : Table → Text → Function Text
function_in all name positional named = answer_in all (function_question name positional named)

-- the text of an answer that is one
abbrev pub text_answered : Value Text → Option Text
text_answered (text_value t) = Some t
text_answered (number_value n) = None
text_answered (custom_value c) = None
text_answered no_value = None
text_answered error_value = None

-- the formatter: a value is shown as usual where the answer is no text
abbrev pub formatted_in : Table → Value Text → Option Text
formatted_in all v = text_answered (answer_in all (formatter_question v))

-- the transform: a text stays as it is where the answer is none
abbrev pub changed_in : Table → Text → Text
changed_in all t = unwrap_or (text_answered (answer_in all (transform_question t))) t

-- ---- answers that were given

-- an answer: the kind of its value, and its text
abbrev pub Given : Type 0
Given = Kind × List ℕ

-- the first answer to a question among records
abbrev pub first_answer : List ℕ → List Record → Option Given
first_answer q all = option_map (λ r. (r.kind, r.value)) (find (λ r. bytes_eq r.name q) all)

-- each is what the table has
abbrev pub AgreeOn : Table → (List ℕ → Option Given) → Type 0
AgreeOn all given = (q : List ℕ) (a : Given) → given q ≡ Some a → answer_in all q ≡ value_of a.0 a.1

-- The first answer to each question that is answered in bytes is what the table has.
abbrev pub AllAgree : Table → List ℕ → Type 0
AllAgree all bytes = (records : List Record) → AreAnswers records bytes → AgreeOn all (λ q. first_answer q records)

-- ---- the same of what the code keeps

abbrev pub answer_view : Answer → Given
answer_view a = (a.kind, string_bytes a.text)

abbrev pub kept_answer : BTreeMap (Vec ℕ Global) Answer → List ℕ → Option Given
kept_answer rows q = option_map answer_view (get_by (λ k. slice_cmp nat_cmp q k.items) rows)
