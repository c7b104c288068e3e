-- Names of files as parts of URIs. Which bytes stay stands in `UriRows`.
use Rattle.percent_encoding.specs.Percent.{percent_encode}
use Rattle.fluent_ast.specs.Tree.{Text}
use Rattle.fluent_cli_report.specs.declared.sarif.TheConstants.{ESCAPED}

-- each byte that a URI's path can't have, and some others, as `%` and its two digits
abbrev pub uri_text : Text → Text
uri_text name = percent_encode ESCAPED name
