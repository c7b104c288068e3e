-- Lists of names.
use Rattle.std.specs.Prelude.{List, [], Bool, not}
use Rattle.std.specs.List.{filter, list_any}
use Rattle.indexmap.specs.IndexSet.{insert_all}
use Rattle.fluent_ast.specs.Tree.{Text}
use Rattle.fluent_semantics.specs.Number.{is_text}

abbrev pub is_one_of : List Text → Text → Bool
is_one_of names name = list_any (is_text name) names

-- each once, where it comes first
abbrev pub once : List Text → List Text
once names = insert_all is_text [] names

-- those that are not among others
abbrev pub without : List Text → List Text → List Text
without others names = filter (λ name. not (is_one_of others name)) names
