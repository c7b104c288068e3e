-- Rows in the Static Analysis Results Interchange Format, version 2.1.0. Members stand in the order of their names.
use Rattle.std.specs.Prelude.{Bool, List, [], ◌∷◌, ◌++◌, map, codes}
use Rattle.serde_json.specs.Data.{Data, array, item, member, no_items, no_members, number, object, string, unsigned}
use Rattle.serde_json.specs.View.{items_of}
use Rattle.serde_json.specs.Written.{compact_text}
use Rattle.fluent_ast.specs.Tree.{Text}
use Rattle.fluent_cli_words.specs.declared.kinds.TheConstants.{KINDS}
use Rattle.fluent_cli_report.specs.Rows.{Row, severity}
use Rattle.fluent_cli_report.specs.Told.{told}
use Rattle.fluent_cli_report.specs.Uri.{uri_text}

-- an object with one member
abbrev pub object_with : Text → Data → Data
object_with name value = object (member name value no_members)

abbrev pub region_of : Row → Data
region_of r = object (
    member (codes "startColumn") (number (unsigned r.column))
    (member (codes "startLine") (number (unsigned r.line)) no_members))

abbrev pub location_of : Row → Data
location_of r = object_with (codes "physicalLocation") (object (
    member (codes "artifactLocation") (object_with (codes "uri") (string (uri_text r.file)))
    (member (codes "region") (region_of r) no_members)))

abbrev pub sarif_row : Row → Data
sarif_row r = object (
    member (codes "level") (string (severity r.is_error))
    (member (codes "locations") (array (item (location_of r) no_items))
    (member (codes "message") (object_with (codes "text") (string r.text))
    (member (codes "ruleId") (string r.name) no_members))))

-- a kind of problem
abbrev pub sarif_rule : Text → Data
sarif_rule name = object_with (codes "id") (string name)

-- the program
abbrev pub sarif_tool : Data → Data
sarif_tool rules = object_with (codes "driver") (object (
    member (codes "name") (string (codes "fluent"))
    (member (codes "rules") rules no_members)))

-- a run of it, whose columns count characters
abbrev pub sarif_run : Data → Data → Data
sarif_run rules results = object (
    member (codes "columnKind") (string (codes "unicodeCodePoints"))
    (member (codes "results") results
    (member (codes "tool") (sarif_tool rules) no_members)))

abbrev pub sarif_log : Data → Data → Data
sarif_log rules results = object (
    member (codes "$schema") (string (codes "https://json.schemastore.org/sarif-2.1.0.json"))
    (member (codes "runs") (array (item (sarif_run rules results) no_items))
    (member (codes "version") (string (codes "2.1.0")) no_members)))

-- a rule for each name
abbrev pub sarif_rules : List Text → Data
sarif_rules names = array (items_of (map sarif_rule names))

-- each row that is told
abbrev pub sarif_results : Bool → List Row → Data
sarif_results little rows = array (items_of (map sarif_row (told little rows)))

-- the kinds of problems, and that of a file that can't be read
abbrev pub kinds : List Text
kinds = map (λ kind. kind.now) KINDS ++ codes "unreadable-file" ∷ []

-- on one line
abbrev pub sarif_report : Bool → List Row → Text
sarif_report little rows = compact_text (sarif_log (sarif_rules kinds) (sarif_results little rows)) ++ 10 ∷ []
