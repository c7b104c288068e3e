-- Where findings stand in files, and their texts. Files are numbered from 0; of one that isn't there the name and the text are empty.
use Rattle.std.specs.Prelude.{ℕ, List, [], ◌++◌, take, slice_get, codes}
use Rattle.std.specs.Option.{option_map_or}
use Rattle.std.specs.Fmt.{decimal}
use Rattle.fluent_ast.specs.Tree.{Text}
use Rattle.fluent_places.specs.Columns.{column_after, line_after}
use Rattle.fluent_patterns.specs.Found.{Spot, Found, Problem}
use Rattle.fluent_sources.specs.Files.{Read}
use Rattle.fluent_sources.specs.Wording.{entry_text, text_of}

abbrev pub name_at : List Read → ℕ → Text
name_at reads file = option_map_or (λ read. read.name) (slice_get reads file) []

abbrev pub text_at : List Read → ℕ → Text
text_at reads file = option_map_or (λ read. read.text) (slice_get reads file) []

-- counted from 1; a column counts characters
abbrev pub line_at : List Read → Spot → ℕ
line_at reads s = line_after (take s.at (text_at reads s.file))

abbrev pub column_at : List Read → Spot → ℕ
column_at reads s = column_after (take s.at (text_at reads s.file))

-- FILE:LINE:COLUMN
abbrev pub shown_spot : Text → ℕ → ℕ → Text
shown_spot name line column = name ++ (codes ":" ++ (decimal line ++ (codes ":" ++ decimal column)))

abbrev pub spot_text : List Read → Spot → Text
spot_text reads s = shown_spot (name_at reads s.file) (line_at reads s) (column_at reads s)

-- the line of another byte of its file
abbrev pub line_beside : List Read → Spot → ℕ → ℕ
line_beside reads s at = line_at reads (record { file = s.file; at = at })

-- the text of a problem at a spot, by the text of its entry
abbrev pub problem_text : List Read → Spot → Text → Problem → Text
problem_text reads s own p = text_of (line_beside reads s) (spot_text reads) own p

abbrev pub found_text : List Read → Found → Text
found_text reads f = problem_text reads f.spot (entry_text f.place) f.problem
