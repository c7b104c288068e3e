-- How a run of the code ends before it reports.
use Rattle.std.specs.Prelude.{◌≡◌, ℕ, ◌⊎◌, List, map, Option, String, string_bytes}
use Rattle.std.specs.declared.vec.Vec.{Vec}
use Rattle.std.proofs.Common.{Global}
use Rattle.fluent_text.specs.declared.counting.Counting.{Counting}
use Rattle.fluent_ast.specs.Tree.{Text}
use Rattle.fluent_resolver_state.specs.Status.{reported}
use Rattle.fluent_bundle_entries.specs.declared.errors.FluentError.{FluentError}
use Rattle.fluent_show_cli.specs.Program.{bad_rule, out_of_memory, first_of, first_of_source, run_input, run_of}
use Rattle.fluent_show_cli.specs.Runs.{ending_view, ReadFor, inlet, reader_in, state_in, AreLeft, EndsRun, outlet}
use Rattle.fluent_show_words.specs.PluralsView.{plurals_view}
use Rattle.fluent_show_words.specs.WordsView.{asked_view}
use Rattle.fluent_show_cli.specs.declared.input.InputState.{InputState}
use Rattle.fluent_show_cli.specs.declared.input.InputState.TheVariants.{AtEnd}
use Rattle.fluent_show_cli.specs.declared.input.Reads.{Reads}
use Rattle.fluent_show_cli.specs.declared.report.Ending.{Ending}
use Rattle.fluent_show_cli.specs.declared.task.Task.{Task}

abbrev pub Errors : Type 0
Errors = Vec FluentError Global

-- a rule could not be read, or an allocation failed
abbrev pub EndsOnRule : Ending → Type 0
EndsOnRule ending = (ending_view ending ≡ bad_rule) ⊎ (ending_view ending ≡ out_of_memory)

-- its reads showed what they must for that
abbrev pub ReadAs : {R : Type 0} → (R → Option (List ℕ)) → Reads R → Reads R → Ending → Type 0
ReadAs remaining input input' ending =
    ReadFor (ending_view ending) (inlet remaining input) (inlet remaining input')

-- the errors of a list that was empty, and the ending, of a task over the bytes of an input
abbrev pub EndsWith : {W : Type 0} → (W → Option Text) → Task → List ℕ → InputState
    → Counting W → Counting W → Ending → Errors → Type 0
EndsWith held task bytes state out out' ending errors =
    let asked = asked_view task.request in
    let plurals = plurals_view task.plurals in
    EndsRun (run_input asked plurals bytes) (first_of_source asked plurals bytes) state
    (outlet held out) (outlet held out') (ending_view ending) (reported errors.items)

-- that were read to their end
abbrev pub EndsOver : {W : Type 0} → (W → Option Text) → Task → List ℕ
    → Counting W → Counting W → Ending → Errors → Type 0
EndsOver held task bytes out out' ending errors =
    EndsWith held task bytes AtEnd out out' ending errors

module _ {R W : Type 0} (remaining : R → Option (List ℕ)) (held : W → Option Text) where
  -- that a reader has left
  abbrev pub EndsReading : Task → Reads R → Reads R → Counting W → Counting W
      → Ending → Errors → Type 0
  EndsReading task input input' out out' ending errors =
      (bytes : List ℕ) × AreLeft (remaining (reader_in input)) bytes
      × EndsWith held task bytes (state_in input') out out' ending errors

  -- of words
  abbrev pub EndsAsked : List (String Global) → Reads R → Reads R → Counting W → Counting W
      → Ending → Errors → Type 0
  EndsAsked words input input' out out' ending errors =
      (bytes : List ℕ) × AreLeft (remaining (reader_in input)) bytes
      × EndsRun (run_of (map string_bytes words) bytes) (first_of (map string_bytes words) bytes)
      (state_in input') (outlet held out) (outlet held out')
      (ending_view ending) (reported errors.items)
