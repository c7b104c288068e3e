-- Lines by the lists that were made.
use Rattle.std.specs.Prelude.{List, [], ◌∷◌, ◌++◌, flat_map, Option, Some, None}
use Rattle.std.specs.Borrow.{Bor}
use Rattle.fluent_ast.specs.Tree.{Text}
use Rattle.fluent_places.specs.Asked.{list_of, texts}
use Rattle.fluent_places.specs.Places.{Place}
use Rattle.fluent_places.specs.declared.asked.Asked.{Asked}
use Rattle.fluent_sources.specs.Wording.{place_text}
use Rattle.fluent_cli.specs.Listed.{variable_text}

abbrev pub variables_text : Option (List (Bor Text)) → Text
variables_text None = []
variables_text (Some list) = flat_map variable_text (texts list)

-- the line of a place, by what lists say that it asks for
abbrev pub line_by : Asked → Place → Text
line_by asked x = place_text x ++ (variables_text (list_of asked x) ++ 10 ∷ [])
