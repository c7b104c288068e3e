-- Worked rows: what is said of files that can't be read and of messages that aren't there, and the status.
use Rattle.std.specs.Prelude.{◌≡◌, true, false, [], ◌∷◌, ◌++◌, None, codes, refl}
use Rattle.fluent_cli.specs.Checked.{status_by, status_over}
use Rattle.fluent_cli.specs.Files.{line_at, mark, start_of, without_mark}
use Rattle.fluent_cli.specs.Runs.{status_by_whole}
use Rattle.fluent_cli.specs.Shown.{missing_by, status_shown}
use Rattle.fluent_cli.specs.declared.answer.Status.TheVariants.{Fine, Wrong, Fault}

-- a line feed stands in the line that it ends
row_first_line : line_at (codes "a\nb") 1 ≡ 1
row_first_line = refl

row_second_line : line_at (codes "a\nb") 2 ≡ 2
row_second_line = refl

row_mark : without_mark (mark ++ codes "a = b") ≡ codes "a = b"
row_mark = refl

-- a text begins behind a mark
row_start : start_of (mark ++ codes "a = b") ≡ 3
row_start = refl

row_missing : missing_by (codes "a") None ≡ codes "fluent: no message 'a' with a value\n"
row_missing = refl

-- ---- the status

row_warning : status_by false 0 1 ≡ Fine
row_warning = refl

row_strict : status_by true 0 1 ≡ Wrong
row_strict = refl

row_error : status_by false 1 0 ≡ Wrong
row_error = refl

-- the linter finds something that is not told
row_not_well : status_over false Fine ≡ Wrong
row_not_well = refl

row_whole : status_by_whole true Wrong ≡ Wrong
row_whole = refl

row_fault : status_by_whole false Fine ≡ Fault
row_fault = refl

row_shown : status_shown true false true ≡ Fine
row_shown = refl

row_shown_strictly : status_shown true true true ≡ Wrong
row_shown_strictly = refl

row_not_there : status_shown false false false ≡ Wrong
row_not_there = refl
