-- What a bundle means by what the caller answers: something else at each table of all answers.
use Rattle.std.specs.Prelude.{◌==◌, ◌||◌, ℕ, Bool, true, false, not, List, [], ◌∷◌, ◌++◌, map, length, Option, Some, None, string_bytes, if◌then◌else◌}
use Rattle.std.specs.List.{list_any}
use Rattle.fluent_ast.specs.Tree.{Text}
use Rattle.fluent_semantics.specs.Arguments.{Map}
use Rattle.fluent_semantics.specs.Bundle.{Bundle, Entry, a_message, a_term, a_function, number_builtin}
use Rattle.fluent_semantics.specs.Number.{is_text}
use Rattle.fluent_semantics.specs.Value.{Value}
use Rattle.fluent_answers.specs.Answered.{changed_in, formatted_in, function_in}
use Rattle.fluent_answers.specs.Tables.{Table}
use Rattle.fluent_answers.specs.declared.question.Asker.{Asker}
use Rattle.fluent_answers.specs.declared.question.Asker.TheVariants as asker

-- ---- what the caller declared

pub record Declares : Type 0 where
  -- names of functions, each once; a source may have put something else in the place of one
  pub functions : List Text
  -- whether it is asked how values are shown, and what text elements become
  pub formatter : Bool
  pub transform : Bool

abbrev pub nothing_declared : Declares
nothing_declared = record { functions = []; formatter = false; transform = false }

-- whether it is anything
abbrev pub is_something : Declares → Bool
is_something d = not (length d.functions == 0) || (d.formatter || d.transform)

-- one name more, unless it is there
abbrev pub with_name : Text → List Text → List Text
with_name name names = if list_any (is_text name) names then names else names ++ name ∷ []

-- whether who asks is something that was declared
abbrev pub is_declared : Asker → Declares → Bool
is_declared (asker.Function name) d = list_any (is_text (string_bytes name)) d.functions
is_declared asker.Formatter d = d.formatter
is_declared asker.Transform d = d.transform

-- ---- by a table

-- each function is the one of its id
abbrev pub entry_at : Table → Text → Entry Text → Entry Text
entry_at all id (a_message v as') = a_message v as'
entry_at all id (a_term p as') = a_term p as'
entry_at all id (a_function f) = a_function (function_in all id)
entry_at all id number_builtin = number_builtin

abbrev pub ids_at : Table → Map (Entry Text) → Map (Entry Text)
ids_at all ids = map (λ e. (e.0, entry_at all e.0 e.1)) ids

-- what is shown in place of a value
abbrev pub formatter_at : Table → Bool → Value Text → Option Text
formatter_at all true = formatted_in all
formatter_at all false = λ v. None

abbrev pub transform_at : Table → Bool → Text → Text
transform_at all true = changed_in all
transform_at all false = λ t. t

-- a bundle whose functions, formatter and transform answer so, where there are some
abbrev pub answered_by : Table → Declares → Bundle Text → Bundle Text
answered_by all d b = record b { ids = ids_at all b.ids; formatter = formatter_at all d.formatter; transform = transform_at all d.transform }

-- whether an entry is a function of the caller's
abbrev pub is_asked : Option (Entry Text) → Bool
is_asked (Some (a_function f)) = true
is_asked _ = false
