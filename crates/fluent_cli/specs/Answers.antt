-- What a run leaves, and what is answered where the words ask for none.
use Rattle.std.specs.Prelude.{◌≡◌, ℕ, [], Result, Ok, Err, string_bytes}
use Rattle.fluent_ast.specs.Tree.{Text}
use Rattle.fluent_cli_words.specs.declared.request.Asked.{Asked}
use Rattle.fluent_cli_words.specs.declared.request.Asked.TheVariants as asked
use Rattle.fluent_cli_words.specs.declared.request.Request.{Request}
use Rattle.fluent_cli.specs.declared.answer.Answer.{Answer}
use Rattle.fluent_cli.specs.declared.answer.Status.{Status}
use Rattle.fluent_cli.specs.declared.answer.Status.TheVariants.{Fine, Wrong, Usage, Fault}

-- the exit status
abbrev pub code_of : Status → ℕ
code_of Fine = 0
code_of Wrong = 1
code_of Usage = 2
code_of Fault = 3

-- with this status the one is printed, and the other is said on standard error
pub record Leaves (with : Status) (printed said : Text) (answer : Answer) : Type 0 where
  pub status : answer.status ≡ with
  pub output : string_bytes answer.output ≡ printed
  pub errors : string_bytes answer.errors ≡ said

-- Words ask for a request. Help is printed with status 0, and a fault of the words is said with status 2.
abbrev pub AnswersWords : Asked → Result Request Answer → Type 0
AnswersWords (asked.Request request) (Ok given) = given ≡ request
AnswersWords (asked.Help text) (Err answer) = Leaves Fine (string_bytes text) [] answer
AnswersWords (asked.Fault text) (Err answer) = Leaves Usage [] (string_bytes text) answer
AnswersWords _ _ = ⊥
