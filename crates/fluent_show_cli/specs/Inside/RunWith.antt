-- A run of the code that came to given errors.
use Rattle.std.specs.Prelude.{ℕ, List, map, Option, String, string_bytes}
use Rattle.std.proofs.Common.{Global}
use Rattle.fluent_text.specs.declared.counting.Counting.{Counting}
use Rattle.fluent_ast.specs.Tree.{Text}
use Rattle.fluent_semantics.specs.Errors.{Error}
use Rattle.fluent_show_cli.specs.Runs.{inlet, reader_in, AreLeft, RanTo, outlet}
use Rattle.fluent_show_cli.specs.Program.{first_of, run_of}
use Rattle.fluent_show_cli.specs.declared.input.Reads.{Reads}

-- by what the types of the reader and of the writers say that these have left and hold
abbrev pub RanWith : {R W E : Type 0} → (R → Option (List ℕ)) → (W → Option Text) → (E → Option Text)
    → List (String Global) → Reads R → Reads R → Counting W → Counting W → Counting E → Counting E
    → List Error → ℕ → Type 0
RanWith remaining held said words input input' out out' err err' errors result =
    (bytes : List ℕ) × AreLeft (remaining (reader_in input)) bytes
    × RanTo (run_of (map string_bytes words) bytes) (first_of (map string_bytes words) bytes)
    errors (inlet remaining input) (inlet remaining input')
    (outlet held out) (outlet held out') (outlet said err) (outlet said err') result
