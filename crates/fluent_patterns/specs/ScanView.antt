-- What a scan of the code has.
use Rattle.std.specs.Prelude.{reverse}
use Rattle.fluent_patterns.specs.Marks.{Scan}
use Rattle.fluent_patterns.specs.declared.marks.Scan as code

abbrev pub scan_view : code.Scan → Scan
scan_view s = record { mode = s.mode; braces = reverse s.braces.items; marks = s.marks.items }
