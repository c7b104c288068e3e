-- Each kind of problem has a rule in a log, and a file that can't be read.
use Rattle.std.specs.Prelude.{◌≡◌, Bool, true, codes}
use Rattle.std.specs.List.{list_any}
use Rattle.std.specs.Str.{bytes_eq}
use Rattle.fluent_ast.specs.Tree.{Text}
use Rattle.fluent_patterns.specs.Found.{Problem}
use Rattle.fluent_patterns.specs.Problems.{name_of}
use Rattle.fluent_cli_report.specs.Sarif.{kinds}

abbrev pub has_rule : Text → Bool
has_rule name = list_any (bytes_eq name) kinds

abbrev pub EachHasRule : Type 0
EachHasRule = (p : Problem) → has_rule (name_of p) ≡ true

abbrev pub UnreadHasRule : Type 0
UnreadHasRule = has_rule (codes "unreadable-file") ≡ true
