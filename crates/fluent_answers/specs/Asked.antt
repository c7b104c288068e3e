-- What the functions, the formatter and the transform of a bundle answer by what a caller has answered.
use Rattle.std.specs.Prelude.{◌≡◌, ℕ, List, Option, Some, None, string_bytes}
use Rattle.std.specs.declared.rc.Rc.{Rc}
use Rattle.std.proofs.Common.{Global}
use Rattle.fluent_ast.specs.Tree.{Text}
use Rattle.fluent_semantics.specs.Bundle.{Function}
use Rattle.fluent_semantics.specs.Value.{Value, error_value}
use Rattle.fluent_answers.specs.Answered.{Given, changed_in, first_answer, formatted_in, function_in, kept_answer}
use Rattle.fluent_answers.specs.Records.{AreAnswers, Record}
use Rattle.fluent_answers.specs.declared.answers.Answers.{Answers}
use Rattle.fluent_answers.specs.declared.formatter.AskedFormatter.{AskedFormatter}
use Rattle.fluent_answers.specs.declared.function.AskedFunction.{AskedFunction}
use Rattle.fluent_answers.specs.declared.transform.AskedTransform.{AskedTransform}

-- what was answered to a question
abbrev pub answered_in : Answers → List ℕ → Option Given
answered_in answers q = kept_answer answers.rows q

-- The bytes are answers, and these are they: the first to each question.
pub record IsReadFrom (bytes : List ℕ) (answers : Answers) : Type 0 where
  pub records : List Record
  pub are : AreAnswers records bytes
  pub first : (q : List ℕ) → answered_in answers q ≡ first_answer q records

-- Before there are answers no call gives one, so each will do.
abbrev pub function_by : Text → Option (Rc Answers Global) → Function Text
function_by name None = λ positional named. error_value
function_by name (Some answers) = function_in answers.value.meant.table name

abbrev pub function_of : AskedFunction → Function Text
function_of f = function_by (string_bytes f.name) f.answers

-- a function before there are answers
abbrev pub IsNewFunction : AskedFunction → Type 0
IsNewFunction f = f.answers ≡ None

abbrev pub formatter_by : Option (Rc Answers Global) → Value Text → Option Text
formatter_by None = λ v. None
formatter_by (Some answers) = formatted_in answers.value.meant.table

abbrev pub formatter_of : AskedFormatter → Value Text → Option Text
formatter_of g = formatter_by g.answers

abbrev pub IsNewFormatter : AskedFormatter → Type 0
IsNewFormatter g = g.answers ≡ None

abbrev pub transform_by : Option (Rc Answers Global) → Text → Text
transform_by None = λ t. t
transform_by (Some answers) = changed_in answers.value.meant.table

abbrev pub transform_of : AskedTransform → Text → Text
transform_of t = transform_by t.answers

abbrev pub IsNewTransform : AskedTransform → Type 0
IsNewTransform t = t.answers ≡ None
