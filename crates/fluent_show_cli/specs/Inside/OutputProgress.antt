-- How far a call came with what it writes and reports.
use Rattle.std.specs.Prelude.{◌≡◌, List, false, Option, Result, OnOk}
use Rattle.std.specs.Io.KnownBytes.{Appends}
use Rattle.fluent_text.specs.Taken.{TookPrefix}
use Rattle.fluent_text.specs.declared.counting.Counting.{Counting}
use Rattle.fluent_text.specs.declared.counting.WriteFault.{WriteFault}
use Rattle.fluent_text.specs.declared.counting.WriteFault.TheVariants.{Memory}
use Rattle.fluent_ast.specs.Tree.{Text}
use Rattle.fluent_semantics.specs.Errors.{Error}
use Rattle.fluent_semantics.specs.Laws.{Begins}
use Rattle.fluent_bundle_entries.specs.declared.errors.FluentError.{FluentError}
use Rattle.fluent_bundle.specs.Formatted.{AddsAll, AddsPrefix}
use Rattle.fluent_show_cli.specs.Program.{Ending, shown, First}
use Rattle.fluent_show_cli.specs.Runs.{Precedes}

-- A beginning of the errors was added, and all of them where the answer is Ok.
pub record Added {T E : Type 0} (result : Result T E) (errors : List Error)
    (old new : List FluentError) : Type 0 where
  pub all : OnOk result (AddsAll errors old new)
  pub prefix : AddsPrefix errors old new

-- A beginning of the text was taken, and all of it where the answer is Ok.
pub record Took {T E : Type 0} (result : Result T E) (text : Text)
    (old new : Option Text) : Type 0 where
  pub all : OnOk result (Appends old new text)
  pub prefix : TookPrefix old new text

-- A beginning of the text was taken, and not all of it.
abbrev pub TookPart : Text → Option Text → Option Text → Type 0
TookPart text old new = (prefix : Text) × Precedes prefix text × Appends old new prefix

-- Where a call was stopped whose run ends so, and has these first things before it writes.
pub data Stops {W : Type 0} (ending : Ending) (first : First) (errors : List Error)
    (out out' : Counting W) (fault : WriteFault) : Type 0 where
  -- an allocation failed, and nothing was written
  before : fault ≡ Memory → out' ≡ out → Stops ending first errors out out' fault
  -- there was a text to show, and the first errors had been found;
  -- where it was an allocation that failed, the text is written in pieces
  after : ending ≡ shown → Begins first.errors errors → (fault ≡ Memory → first.whole ≡ false)
      → Stops ending first errors out out' fault
