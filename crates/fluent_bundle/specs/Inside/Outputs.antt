-- What is written to an output, and what it says beside.
use Rattle.std.specs.Prelude.{Option, Result}
use Rattle.std.specs.Borrow.{Bor}
use Rattle.fluent_text.specs.Writer.{failed_in, empty_in}
use Rattle.fluent_text.specs.declared.counting.Counting.{Counting}
use Rattle.fluent_ast.specs.Tree.{Text}
use Rattle.fluent_ast.specs.declared.ast.Pattern as code
use Rattle.fluent_semantics.specs.Bundle.{Bundle}
use Rattle.fluent_values.specs.Sinks.{CountsTell, outside}
use Rattle.fluent_values.specs.declared.args.FluentArgs.{FluentArgs}
use Rattle.fluent_values.specs.declared.output.Halt.{Halt}
use Rattle.fluent_values.specs.declared.output.Output.{Output}
use Rattle.fluent_text.specs.Changes.{Change, new, old}
use Rattle.fluent_bundle.specs.Formatted.{Errors, Writes, events}

-- the events of a pattern happened where an output that keeps none sends its text, or a prefix of them
abbrev pub WritesOut : {C W T : Type 0} → Bundle Text → (C → Text) → Option (Bor (FluentArgs C)) → code.Pattern → Result T Halt → (W → Option Text) → Change (Output W) → Change Errors → Type 0
WritesOut b content args p result contents out errors =
    Writes result (events b content args p) (outside contents (old out)) (outside contents (new out)) (old errors).items (new errors).items

-- which count of a writer an answer raised
abbrev pub CountsHalt : {W T : Type 0} → Counting W → Counting W → Result T Halt → Type 0
CountsHalt w w' result = CountsTell (failed_in w) (empty_in w) (failed_in w') (empty_in w') result
