-- What is asked and answered.
use Rattle.std.specs.Prelude.{◌≡◌, Bool, true, false, ℕ, List, Option, Some, None, codes}
use Rattle.fluent_ast.specs.Tree.{Text}
use Rattle.fluent_semantics.specs.Bundle.{Bundle}
use Rattle.fluent_values.specs.declared.args.FluentArgs.{FluentArgs}
use Rattle.fluent_answers.specs.Asked.{answered_in}
use Rattle.fluent_answers.specs.Tables.{Table}
use Rattle.fluent_answers.specs.declared.answers.Answers.{Answers}
use Rattle.fluent_answers.specs.declared.own.OwnValue.{OwnValue}
use Rattle.fluent_c_handles.specs.Answers.{BundleCall, Kept, found_at}
use Rattle.fluent_c_handles.specs.Calls.Formatting.{FormatsBy, IsAsked, told_in}
use Rattle.fluent_c_handles.specs.Family.{Declares}
use Rattle.fluent_c_handles.specs.Calls.Declaring.{is_taken, with_builtins, with_declared}
use Rattle.fluent_c_handles.specs.Calls.Opening.{IsLimit, limited_to}
use Rattle.fluent_c_handles.specs.Inside.Written.{AreTexts}
use Rattle.fluent_c_handles.specs.declared.answer.Answer.{Answer}
use Rattle.fluent_c_handles.specs.declared.asking.Wanted.{Wanted}
use Rattle.fluent_c_handles.specs.declared.answer.Answer.TheVariants as answer
use Rattle.fluent_c_handles.specs.declared.sources.SourceFault.TheVariants as source_fault
use Rattle.fluent_c_handles.specs.declared.texts.Form.{Form}
use Rattle.fluent_c_handles.specs.declared.texts.FormatFault.TheVariants as fault

-- a text, a question, or why none
abbrev pub AnswersBy : Form → Bundle Text → Declares → Answers → Text → Text → FluentArgs OwnValue → Answer → Type 0
AnswersBy form bundle d answers id name args (answer.Texts text lines) = AreTexts form bundle args (found_at id name bundle) text lines
AnswersBy form bundle d answers id name args (answer.Asks question) = (answered_in answers question.items ≡ None) × IsAsked d question.items
AnswersBy form bundle d answers id name args (answer.Fault (source_fault.Format fault.NoMessage)) = found_at id name bundle ≡ None
AnswersBy form bundle d answers id name args (answer.Fault (source_fault.Format fault.Memory)) = Unit {0}
AnswersBy form bundle d answers id name args a = ⊥

-- whether an id was declared
abbrev pub DeclaredAs : Text → Bool → Kept → Kept → Bool → Type 0
DeclaredAs name over m new true = (over ≡ false → is_taken name m ≡ false) × (new ≡ with_declared name m)
DeclaredAs name over m new false = (new ≡ m) × (over ≡ false) × (is_taken name m ≡ true)

-- whether NUMBER was added
abbrev pub BuiltinsAdded : Kept → Kept → Bool → Type 0
BuiltinsAdded m new true = (is_taken (codes "NUMBER") m ≡ false) × (new ≡ with_builtins m)
BuiltinsAdded m new false = (new ≡ m) × (is_taken (codes "NUMBER") m ≡ true)

-- whether a limit was set
abbrev pub LimitSet : ℕ → Kept → Kept → Bool → Type 0
LimitSet n m new true = (new ≡ limited_to n m) × IsLimit n
LimitSet n m new false = (new ≡ m) × ¬ (IsLimit n)

-- the message that is wanted is formatted, or its caller asked
abbrev pub FormatsWanted : Table → List ℕ → Wanted → BundleCall
FormatsWanted all answers w = FormatsBy all answers (told_in w.form) w.id.now w.name.now w.args.now
