-- The lines of files.
use Rattle.std.specs.Prelude.{ℕ, ◌-◌, List, [], get_or, map}
use Rattle.std.specs.Borrow.{Bor}
use Rattle.std.specs.Str.Lines.{lines}
use Rattle.std.specs.declared.vec.Vec.{Vec}
use Rattle.std.proofs.Common.{Global}
use Rattle.fluent_ast.specs.Tree.{Text}
use Rattle.fluent_sources.specs.Files.{Read}

abbrev pub texts : List (Bor Text) → List Text
texts list = map (λ s. s.now) list

abbrev pub page_views : List (Vec (Bor Text) Global) → List (List Text)
page_views pages = map (λ page. texts page.items) pages

-- the lines of each file, without what ends them
abbrev pub pages_of : List Read → List (List Text)
pages_of reads = map (λ read. lines read.text) reads

-- a line, counted from 1; empty where there is none
abbrev pub line_among : List Text → ℕ → Text
line_among lines line = get_or lines (line - 1) []

abbrev pub line_in : List (List Text) → ℕ → ℕ → Text
line_in pages file line = line_among (get_or pages file []) line
