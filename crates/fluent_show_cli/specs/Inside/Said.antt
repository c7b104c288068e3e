-- What standard error took of a report.
use Rattle.std.specs.Prelude.{◌≡◌, List, ◌⊎◌, Option, Result, Ok, Err, IfOk, OnErr}
use Rattle.std.specs.Io.KnownBytes.{Appends}
use Rattle.fluent_ast.specs.Tree.{Text}
use Rattle.fluent_text.specs.Taken.{TookPrefix}
use Rattle.fluent_text.specs.declared.counting.WriteFault.{WriteFault}
use Rattle.fluent_text.specs.declared.counting.WriteFault.TheVariants.{Memory, Writer, Zero}
use Rattle.fluent_text.specs.Writer.{writer_in}
use Rattle.fluent_text.specs.declared.counting.Counting.{Counting}
use Rattle.fluent_semantics.specs.Errors.{Error}
use Rattle.fluent_resolver_state.specs.Status.{reported}
use Rattle.fluent_bundle_entries.specs.declared.errors.FluentError.{FluentError}
use Rattle.fluent_show_cli.specs.Program.{Ending, out_of_memory, ending_line, error_lines, said}
use Rattle.fluent_show_cli.specs.Runs.{ending_view, Precedes}
use Rattle.fluent_show_cli.specs.declared.report.Ending as code

-- The lines of all errors were taken; where an allocation failed for the line of one, those before it;
-- where the writer faulted, a beginning of them all.
abbrev pub TookErrors : Result (Unit {0}) WriteFault → List Error → Option Text → Option Text
    → Type 0
TookErrors (Ok u) errors old new = Appends old new (error_lines errors)
TookErrors (Err Memory) errors old new =
    (prefix : List Error) × Precedes prefix errors × Appends old new (error_lines prefix)
TookErrors (Err (Writer e)) errors old new = TookPrefix old new (error_lines errors)
TookErrors (Err Zero) errors old new = TookPrefix old new (error_lines errors)

-- All errors and the ending were said as they were handed; or an allocation failed for the line of an error,
-- which was said after the lines before it.
abbrev pub Says : List Error → Ending → Ending → Option Text → Option Text → Type 0
Says errors ending final old new =
    ((final ≡ ending) × Appends old new (said errors ending))
    ⊎ ((prefix : List Error) × Precedes prefix errors × (final ≡ out_of_memory)
    × Appends old new (said prefix out_of_memory))

-- Where the writer faulted: of one of these two a beginning was taken.
abbrev pub BeganToSay : List Error → Ending → Option Text → Option Text → Type 0
BeganToSay errors ending old new =
    TookPrefix old new (said errors ending)
    ⊎ ((prefix : List Error) × Precedes prefix errors × TookPrefix old new (said prefix out_of_memory))

-- ---- of the code

-- between what a writer held and what it holds, as its type says it
abbrev pub At : {W : Type 0} → (W → Option Text) → Counting W → Counting W
    → (Option Text → Option Text → Type 0) → Type 0
At contents w w' took = took (contents (writer_in w)) (contents (writer_in w'))

abbrev pub line_of : code.Ending → Text
line_of ending = ending_line (ending_view ending)

abbrev pub SaysAll : {E : Type 0} → Result code.Ending E → List FluentError → code.Ending
    → Option Text → Option Text → Type 0
SaysAll result errors ending old new =
    IfOk result (λ final. Says (reported errors) (ending_view ending) (ending_view final) old new)

abbrev pub SaysPrefix : {T E : Type 0} → Result T E → List FluentError → code.Ending
    → Option Text → Option Text → Type 0
SaysPrefix result errors ending old new =
    OnErr result (BeganToSay (reported errors) (ending_view ending) old new)
