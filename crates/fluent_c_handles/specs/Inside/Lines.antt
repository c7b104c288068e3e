-- Lines that tell of a source.
use Rattle.std.specs.Prelude.{◌≡◌, ℕ, ◌++◌, string_bytes}
use Rattle.fluent_ast.specs.Tree.{Text}
use Rattle.fluent_c_handles.specs.Calls.Adding.{told_line}
use Rattle.fluent_c_handles.specs.declared.lines.Lines.{Lines}

-- the lines so far
abbrev pub lines_in : Lines → Text
lines_in lines = string_bytes lines.text

-- a text is added to the lines, which are of the same source
pub record AddsText (more : Text) (old new : Lines) : Type 0 where
  pub text : lines_in new ≡ lines_in old ++ more
  pub source : new.source.now ≡ old.source.now

-- a line for what begins there
abbrev pub AddsLine : ℕ → Text → Lines → Lines → Type 0
AddsLine at text old = AddsText (told_line old.source.now at text) old
