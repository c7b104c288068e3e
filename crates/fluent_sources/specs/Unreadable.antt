-- What can't be read in files, and why.
use Rattle.std.specs.Prelude.{◌+◌, ℕ, List, [], ◌∷◌, ◌++◌, map, drop, None}
use Rattle.fluent_ast.specs.Tree.{Text}
use Rattle.fluent_reasons.specs.Reasons.{reason}
use Rattle.fluent_reasons.specs.declared.expected.Reason.{Reason}
use Rattle.fluent_patterns.specs.Found as found
use Rattle.fluent_patterns.specs.Found.{Found}
use Rattle.fluent_sources.specs.ReadFiles.{ReadFile}

-- what can't be read from a byte of a file on, by the reason: it stands where reading stopped
abbrev pub unreadable_by : ℕ → ℕ → Reason → Found
unreadable_by file start r =
    record { spot = record { file = file; at = start + r.offset }; place = None; problem = found.unreadable start r.expected }

abbrev pub unreadable_at : ℕ → Text → ℕ → Found
unreadable_at file text start = unreadable_by file start (reason (drop start text))

-- of a file, by the byte ranges of what the grammar can't read there
abbrev pub unreadable_in : ℕ → Text → List (ℕ × ℕ) → List Found
unreadable_in file text ranges = map (λ range. unreadable_at file text range.0) ranges

-- of files
abbrev pub unreadable_of : ReadFile → List Found
unreadable_of file = unreadable_in file.number file.text file.junk

abbrev pub unreadable : List ReadFile → List Found
unreadable [] = []
unreadable (file ∷ files) = unreadable_of file ++ unreadable files
