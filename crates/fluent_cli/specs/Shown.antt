-- What is shown of a message.
-- Words of other crates: `pattern_asked id name`, the value of the message that an id names, or its first attribute where a name is given; `shown_of`,
-- the text of a pattern that was found and what went wrong in it, or the id alone.
use Rattle.std.specs.Prelude.{◌≡◌, ◌==◌, Bool, true, false, not, List, [], ◌∷◌, ◌++◌, map, flat_map, Option, Some, None, is_some, codes, string_bytes, string_len, if◌then◌else◌}
use Rattle.std.specs.Borrow.{Bor}
use Rattle.std.specs.List.{list_any}
use Rattle.fluent_ast.specs.Tree.{Text, Entry, Pattern}
use Rattle.fluent_semantics.specs.Value.{Value, text_value, try_number}
use Rattle.fluent_semantics.specs.Arguments.{Map, set_all}
use Rattle.fluent_semantics.specs.Bundle.{Bundle}
use Rattle.fluent_semantics.specs.Errors.{Error, error_text}
use Rattle.fluent_fallback.specs.Chain.{Shown, first_with, pattern_asked, shown_of}
use Rattle.fluent_places.specs.Asked.{texts}
use Rattle.fluent_check.specs.Languages.{bundle_with}
use Rattle.fluent_sources.specs.Reading.{entries_read}
use Rattle.fluent_cli_report.specs.Reported.{fault_lines}
use Rattle.fluent_cli_words.specs.declared.request.Argument.{Argument}
use Rattle.fluent_cli_words.specs.declared.request.ShowRequest.{ShowRequest}
use Rattle.fluent_cli.specs.declared.answer.Answer.{Answer}
use Rattle.fluent_cli.specs.declared.answer.Status.{Status}
use Rattle.fluent_cli.specs.declared.answer.Status.TheVariants.{Fine, Wrong}
use Rattle.fluent_cli.specs.declared.reading.Inputs.{Inputs}

-- ---- the text

-- an argument: its value is a text, or the number that it reads as
abbrev pub value_of : Bool → Text → Value Text
value_of true text = text_value text
value_of false text = try_number text

abbrev pub argument : Argument → Text × Value Text
argument a = (a.name.now, value_of a.is_text a.value.now)

-- the arguments, set in order
abbrev pub arguments_of : List Argument → Map (Value Text)
arguments_of list = set_all (map argument list) []

-- what is asked for, of a bundle: the value of the message, or its first attribute of the name
abbrev pub asked_of : ShowRequest → Bundle Text → Option Pattern
asked_of request = pattern_asked request.id.now request.attribute

-- a bundle of each file, with the functions and the files that are loaded before it
abbrev pub bundles_for : ShowRequest → List (List Entry) → List (List Entry) → List (Bundle Text)
bundles_for request beside files = map (bundle_with request.language.now (texts request.functions.items) beside) files

-- what the first bundle that has it gives, or the id
abbrev pub shown_by : ShowRequest → List (Bundle Text) → Shown
shown_by request bundles =
    shown_of request.id.now (arguments_of request.arguments.items) (first_with (asked_of request) bundles)

-- whether one of some bundles has it
abbrev pub is_there : ShowRequest → List (Bundle Text) → Bool
is_there request bundles = list_any (λ b. is_some (asked_of request b)) bundles

-- ---- what is said

-- a line for each error of the text
abbrev pub error_line : Error → Text
error_line error = codes "fluent: " ++ (error_text error ++ 10 ∷ [])

abbrev pub error_lines : List Error → Text
error_lines errors = flat_map error_line errors

-- that a message has no value, or no attribute of a name
abbrev pub missing_by : Text → Option (Bor Text) → Text
missing_by id None = codes "fluent: no message '" ++ (id ++ (codes "' with a value" ++ 10 ∷ []))
missing_by id (Some name) = codes "fluent: no attribute '" ++ (id ++ (codes "." ++ (name.now ++ (codes "'" ++ 10 ∷ []))))

abbrev pub missing_line : ShowRequest → Bool → Text
missing_line request there = if there then [] else missing_by request.id.now request.attribute

-- what is wrong in the files is said first
abbrev pub said_of : ShowRequest → Inputs → List Error → Bool → Text
said_of request inputs errors there =
    (fault_lines inputs.beside ++ fault_lines inputs.sources) ++ (error_lines errors ++ missing_line request there)

-- ---- the status

-- by whether a file has it, whether errors count, and whether there were any
abbrev pub status_shown : Bool → Bool → Bool → Status
status_shown false strict wrong = Wrong
status_shown true false wrong = Fine
status_shown true true false = Fine
status_shown true true true = Wrong

-- By these bundles the text is printed, what went wrong in it is said, and the status goes by whether it is there and anything is said.
pub record ShowsBy (request : ShowRequest) (inputs : Inputs) (bundles : List (Bundle Text)) (answer : Answer) : Type 0 where
  pub output : string_bytes answer.output ≡ (shown_by request bundles).text ++ 10 ∷ []
  pub errors : string_bytes answer.errors ≡ said_of request inputs (shown_by request bundles).errors (is_there request bundles)
  pub status : answer.status ≡ status_shown (is_there request bundles) request.is_strict (not (string_len answer.errors == 0))

-- of what was read
abbrev pub IsShown : ShowRequest → Inputs → Answer → Type 0
IsShown request inputs answer =
    ShowsBy request inputs (bundles_for request (entries_read inputs.beside) (entries_read inputs.sources)) answer
