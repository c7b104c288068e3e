-- What the caller answered is put into a bundle.
use Rattle.std.specs.Prelude.{◌≡◌, ℕ, Bool, true, false, List, [], ◌∷◌, take, if◌then◌else◌}
use Rattle.fluent_ast.specs.Tree.{Text}
use Rattle.fluent_semantics.specs.Arguments.{Map, get, set}
use Rattle.fluent_semantics.specs.Bundle.{Bundle, Entry, a_function}
use Rattle.fluent_answers.specs.Answered.{changed_in, formatted_in, function_in}
use Rattle.fluent_answers.specs.Tables.{Table}
use Rattle.fluent_c_handles.specs.Family.{is_asked}

-- the function of a name, where the name stands for one of the caller's
abbrev pub put_one : Table → Text → Map (Entry Text) → Map (Entry Text)
put_one all name ids = if is_asked (get name ids) then set name (a_function (function_in all name)) ids else ids

-- the same of one name after the other
abbrev pub put_all : Table → List Text → Map (Entry Text) → Map (Entry Text)
put_all all [] ids = ids
put_all all (name ∷ names) ids = put_all all names (put_one all name ids)

abbrev pub with_functions : Table → List Text → Bundle Text → Bundle Text
with_functions all names b = record b { ids = put_all all names b.ids }

-- some of the names have theirs
pub record PutsSome (all : Table) (names : List Text) (old new : Bundle Text) : Type 0 where
  pub count : ℕ
  pub is : new ≡ with_functions all (take count names) old

-- the formatter, and the transform, where there is one
abbrev pub shown_by : Table → Bool → Bundle Text → Bundle Text
shown_by all on b = if on then record b { formatter = formatted_in all } else b

abbrev pub changed_by : Table → Bool → Bundle Text → Bundle Text
changed_by all on b = if on then record b { transform = changed_in all } else b
