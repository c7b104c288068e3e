-- What standard error took of a report.
use Rattle.std.proofs.Common.{◌≡◌, ◌≢◌, ◌∙◌, sym, ap, subst, refl, ℕ, List, inl, inr, Option, Result, Ok, Err}
use Rattle.std.specs.Io.KnownBytes.{Appends}
use Rattle.fluent_ast.specs.Tree.{Text}
use Rattle.fluent_text.specs.Taken.{TookPrefix}
use Rattle.fluent_text.specs.Writer.{Faulted}
use Rattle.fluent_text.specs.declared.counting.WriteFault.{WriteFault}
use Rattle.fluent_text.specs.declared.counting.WriteFault.TheVariants.{Memory, Writer, Zero}
use Rattle.fluent_semantics.specs.Errors.{Error}
use Rattle.fluent_show_cli.specs.Program.{Ending, exit_status, out_of_memory, ending_line, error_lines, said, Run, First, answer}
use Rattle.fluent_show_cli.specs.Runs.{AnswersAs, as_defined, by_reading, by_writing, by_memory, by_memory_read, by_memory_shown, ReportsRun, whole, short, whole_begun, short_begun, RanTo, IsStopped, unread, unwritten, unsaid, refused, Inlet, ReadFor, Outlet, Precedes, Rose, TakesAll}
use Rattle.fluent_show_cli.specs.Inside.Said.{Says, BeganToSay, TookErrors}
use Rattle.fluent_show_cli.proofs.Taking.{prefix_short, prefix_then}

-- a writer that faulted took a beginning of the lines
pub took_fault : (r : Result (Unit {0}) WriteFault) (fault : WriteFault) (errors : List Error) (old new : Option Text) → r ≡ Err fault → ¬ (fault ≡ Memory)
    → TookPrefix old new (error_lines errors) → TookErrors r errors old new
took_fault r Memory errors old new is not h = absurd (not refl)
took_fault r (Writer e) errors old new is not h = rw is h
took_fault r Zero errors old new is not h = rw is h

-- before the ending
pub began_errors : (fault : WriteFault) (errors : List Error) (ending : Ending) (old new : Option Text) → ¬ (fault ≡ Memory)
    → TookErrors (Err fault) errors old new → BeganToSay errors ending old new
began_errors Memory errors ending old new not h = absurd (not refl)
began_errors (Writer e) errors ending old new not h = inl (prefix_short old new (error_lines errors) (ending_line ending) h)
began_errors Zero errors ending old new not h = inl (prefix_short old new (error_lines errors) (ending_line ending) h)

-- in the ending's line, after those of all errors
pub began_all : (errors : List Error) (ending : Ending) (old mid new : Option Text) → Appends old mid (error_lines errors) → TookPrefix mid new (ending_line ending) → BeganToSay errors ending old new
began_all errors ending old mid new lines h = inl (prefix_then old mid new (error_lines errors) (ending_line ending) lines h)

-- in the line that says that an allocation failed, after those of the first errors
pub began_some : (errors : List Error) (ending : Ending) (old mid new : Option Text) → (prefix : List Error) × Precedes prefix errors × Appends old mid (error_lines prefix)
    → TookPrefix mid new (ending_line out_of_memory) → BeganToSay errors ending old new
began_some errors ending old mid new lines h = inr (lines.0, lines.1, prefix_then old mid new (error_lines lines.0) (ending_line out_of_memory) lines.2 h)

-- ---- the report of a run

-- it was said
pub reports_said : {T : Type 0} (r : Result T WriteFault) (errors : List Error) (ending final : Ending) (x : T) (err err' : Outlet) (result : ℕ) → r ≡ Ok x → result ≡ exit_status final
    → Says errors ending final err.held err'.held → Faulted err.failed err.empty err'.failed err'.empty r → ReportsRun errors ending err err' result
reports_said r errors ending final x err err' result was is says fault =
    let stood = subst (λ w. Faulted err.failed err.empty err'.failed err'.empty w) was fault in
    elim says [
      | inl h ↦ whole (is ∙ ap exit_status h.0) (record { taken = h.1; failed = stood.0; empty = stood.1 })
      | inr h ↦ short (is ∙ ap exit_status h.2) h.0 h.1 (record { taken = h.3; failed = stood.0; empty = stood.1 })
    ]

begun_by : (errors : List Error) (ending : Ending) (err err' : Outlet) → Rose err.failed err.empty err'.failed err'.empty → BeganToSay errors ending err.held err'.held → ReportsRun errors ending err err' 3
begun_by errors ending err err' rose began = elim began [
  | inl h ↦ whole_begun refl (record { taken = h; rose = rose })
  | inr h ↦ short_begun refl h.0 h.1 (record { taken = h.2; rose = rose })
]

-- standard error faulted
pub reports_begun : {T : Type 0} (r : Result T WriteFault) (errors : List Error) (ending : Ending) (fault : WriteFault) (err err' : Outlet) → r ≡ Err fault → ¬ (fault ≡ Memory)
    → BeganToSay errors ending err.held err'.held → Faulted err.failed err.empty err'.failed err'.empty r → ReportsRun errors ending err err' 3
reports_begun r errors ending Memory err err' was not began fault = absurd (not refl)
reports_begun r errors ending (Writer e) err err' was not began fault =
    begun_by errors ending err err' (inl (subst (λ w. Faulted err.failed err.empty err'.failed err'.empty w) was fault)) began
reports_begun r errors ending Zero err err' was not began fault =
    begun_by errors ending err err' (inr (subst (λ w. Faulted err.failed err.empty err'.failed err'.empty w) was fault)) began

-- a run that ends with status 3 was stopped
pub stopped : (run : Run) (first : First) (errors : List Error) (input input' : Inlet) (out out' err err' : Outlet) (result : ℕ) → exit_status run.ending ≢ 3
    → RanTo run first errors input input' out out' err err' result → result ≡ 3 → IsStopped input input' out out' err err'
stopped run first errors input input' out out' err err' result never ran three = elim ran.reports [
  | short is prefix precedes takes ↦ refused prefix takes
  | whole_begun is faults ↦ unsaid faults.rose
  | short_begun is prefix precedes faults ↦ unsaid faults.rose
  | whole is takes ↦
      let says : (e : Ending) → ran.ending ≡ e → TakesAll (said errors e) err err' = λ e same. subst (λ w. TakesAll (said errors w) err err') same takes in
      elim ran.ends [
        | as_defined same all written ↦ absurd (never (sym (ap exit_status same) ∙ sym is ∙ three))
        | by_reading same none left ↦ unread (subst (λ e. ReadFor e input input') same ran.reads)
        | by_writing same is_shown found begun faults ↦ unwritten faults.rose
        | by_memory same unshown none left ↦ refused errors (says out_of_memory same)
        | by_memory_read same at_end is_text begun left ↦ refused errors (says out_of_memory same)
        | by_memory_shown same at_end is_shown pieces found begun part ↦ refused errors (says out_of_memory same)
      ]
]

-- one that doesn't came to what it should
pub worked : (run : Run) (first : First) (errors : List Error) (input input' : Inlet) (out out' err err' : Outlet) (result : ℕ) → RanTo run first errors input input' out out' err err' result
    → result ≢ 3 → AnswersAs (answer run) result out out' err err'
worked run first errors input input' out out' err err' result ran not = elim ran.reports [
  | short is prefix precedes takes ↦ absurd (not is)
  | whole_begun is faults ↦ absurd (not is)
  | short_begun is prefix precedes faults ↦ absurd (not is)
  | whole is takes ↦ elim ran.ends [
    | as_defined same all written ↦ record {
      status = is ∙ ap exit_status same;
      output = written;
      errors = subst (λ t. TakesAll t err err') (ap (λ es. said es ran.ending) all ∙ ap (said run.errors) same) takes;
    }
    | by_reading same none left ↦ absurd (not (is ∙ ap exit_status same))
    | by_writing same is_shown found begun faults ↦ absurd (not (is ∙ ap exit_status same))
    | by_memory same unshown none left ↦ absurd (not (is ∙ ap exit_status same))
    | by_memory_read same at_end is_text begun left ↦ absurd (not (is ∙ ap exit_status same))
    | by_memory_shown same at_end is_shown pieces found begun part ↦ absurd (not (is ∙ ap exit_status same))
  ]
]
