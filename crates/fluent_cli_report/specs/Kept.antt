-- Rows of the code, as they are collected.
use Rattle.std.specs.Prelude.{◌≡◌, List, ◌∷◌, ◌++◌, map, String, string_bytes}
use Rattle.std.proofs.Common.{Global}
use Rattle.std.specs.declared.vec.Vec.{Vec}
use Rattle.fluent_patterns.specs.Found.{Found, found_in}
use Rattle.fluent_patterns.specs.declared.finding.Finding.{Finding}
use Rattle.fluent_sources.specs.Files.{Read}
use Rattle.fluent_cli_report.specs.Rows.{Row, kept_after}
use Rattle.fluent_cli_report.specs.declared.rows.Row as code

abbrev pub row_view : code.Row → Row
row_view r = record {
  file = r.file.now;
  line = r.line;
  column = r.column;
  is_error = r.is_error;
  name = r.name.now;
  entry = string_bytes r.entry;
  text = string_bytes r.text;
  source = r.source.now;
}

abbrev pub row_views : List code.Row → List Row
row_views rows = map row_view rows

-- a finding was kept if its line was not known, and its line is known: whatever comes after it
abbrev pub KeepsMore : List Read → Found → List (String Global) → List (String Global) → Vec Finding Global → Vec Finding Global → Type 0
KeepsMore reads f old_lines lines old_kept kept =
    (rest : List Found)
    → found_in kept ++ kept_after reads (map string_bytes lines) rest ≡ found_in old_kept ++ kept_after reads (map string_bytes old_lines) (f ∷ rest)
