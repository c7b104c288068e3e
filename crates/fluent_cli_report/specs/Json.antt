-- Rows as JSON: a list of objects, whose members stand in the order of their names.
use Rattle.std.specs.Prelude.{Bool, List, [], ◌∷◌, ◌++◌, map, codes}
use Rattle.serde_json.specs.Data.{Data, array, member, no_members, number, object, string, unsigned}
use Rattle.serde_json.specs.View.{items_of}
use Rattle.serde_json.specs.Written.{compact_text}
use Rattle.fluent_ast.specs.Tree.{Text}
use Rattle.fluent_cli_report.specs.Rows.{Row, severity}
use Rattle.fluent_cli_report.specs.Told.{told}

abbrev pub json_row : Row → Data
json_row r = object (
    member (codes "column") (number (unsigned r.column))
    (member (codes "entry") (string r.entry)
    (member (codes "file") (string r.file)
    (member (codes "kind") (string r.name)
    (member (codes "line") (number (unsigned r.line))
    (member (codes "severity") (string (severity r.is_error))
    (member (codes "text") (string r.text) no_members)))))))

-- each row that is told
abbrev pub json_rows : Bool → List Row → Data
json_rows little rows = array (items_of (map json_row (told little rows)))

-- on one line
abbrev pub json_report : Bool → List Row → Text
json_report little rows = compact_text (json_rows little rows) ++ 10 ∷ []
