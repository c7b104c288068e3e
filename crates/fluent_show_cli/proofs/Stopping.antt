-- Where a call was stopped.
use Rattle.std.proofs.Common.{◌≡◌, ◌≢◌, ◌∙◌, sym, ap, subst, refl, ℕ, List, [], ◌∷◌, ◌++◌, append_assoc, append-nil, Option, Result, Ok, Err}
use Rattle.std.specs.Result.{IfErr}
use Rattle.fluent_ast.specs.Tree.{Text, Pattern}
use Rattle.fluent_text.specs.declared.counting.Counting.{Counting}
use Rattle.fluent_text.specs.declared.counting.WriteFault.{WriteFault}
use Rattle.fluent_text.specs.declared.counting.WriteFault.TheVariants.{Memory}
use Rattle.fluent_semantics.specs.Arguments.{Map}
use Rattle.fluent_semantics.specs.Bundle.{Bundle}
use Rattle.fluent_semantics.specs.Errors.{Error}
use Rattle.fluent_semantics.specs.Events.{text_in}
use Rattle.fluent_semantics.specs.Result.{written_pattern}
use Rattle.fluent_semantics.specs.Value.{Value}
use Rattle.fluent_resolver_state.specs.Status.{reported}
use Rattle.fluent_bundle_entries.specs.declared.errors.FluentError.{FluentError}
use Rattle.fluent_bundle.specs.Formatted.{AddsAll, EventsAreRun, WritesPrefix, written_events}
use Rattle.fluent_show_cli.specs.Program.{Ending, shown, Run, First, all_first, in_pieces}
use Rattle.fluent_show_cli.specs.Runs.{Precedes}
use Rattle.fluent_show_cli.specs.Inside.OutputProgress.{Added, Stops, before, after, TookPart}
use Rattle.fluent_show_cli.proofs.Adding.{added_to_none, adds_then}

-- what stands before the last byte of a line is not all of it
pub part_of_line : (prefix rest : Text) (b : ℕ) → Precedes prefix ((prefix ++ rest) ++ b ∷ [])
part_of_line prefix [] b = (b, ([], ap (λ w. w ++ b ∷ []) (append-nil prefix) ∙ sym (append-nil (prefix ++ b ∷ []))))
part_of_line prefix (x ∷ rest) b = (x, (rest ++ b ∷ [], append_assoc prefix (x ∷ rest) (b ∷ []) ∙ sym (append_assoc prefix (x ∷ []) (rest ++ b ∷ []))))

-- a formatting call that faulted, where a line feed was to follow
pub part_written : (b : Bundle Text) (args : Map (Value Text)) (p : Pattern) → EventsAreRun b args p → {held held' : Option Text} {old new : List FluentError} → WritesPrefix (written_events b args p) held held' old new → TookPart ((written_pattern b args p).value ++ 10 ∷ []) held held'
part_written b args p law h =
    let taken = text_in h.done in
    (taken, subst (λ t. Precedes taken (t ++ 10 ∷ [])) (law.prefix h.done h.rest h.whole).text (part_of_line taken (text_in h.rest) 10), h.taken)

-- ---- of a call whose run ends so, with these errors in the list

-- a call that got no memory, before it wrote
pub stops_before : {T W : Type 0} (r : Result T WriteFault) (ending : Ending) (first : First) (errors : List Error) (out out' : Counting W) → r ≡ Err Memory → out' ≡ out → IfErr r (Stops ending first errors out out')
stops_before r ending first errors out out' was same = subst (λ w. IfErr w (Stops ending first errors out out')) (sym was) (before refl same)

-- a call that writes in pieces
pub stops_writing : {T W : Type 0} (r : Result T WriteFault) (ending : Ending) (errors : List Error) (out out' : Counting W) → ending ≡ shown → IfErr r (Stops ending (in_pieces []) errors out out')
stops_writing (Ok x) ending errors out out' is = tt
stops_writing (Err e) ending errors out out' is = after is (errors, refl) (λ m. refl)

-- the same after all errors of what was found before
pub stops_later : {T W : Type 0} (r : Result T WriteFault) (ending : Ending) (xs ys : List Error) (old mid new : List FluentError) (out out' : Counting W) → old ≡ [] → AddsAll xs old mid → Added r ys mid new
    → IfErr r (Stops ending (in_pieces []) (reported new) out out') → IfErr r (Stops ending (in_pieces xs) (reported new) out out')
stops_later (Ok x) ending xs ys old mid new out out' none adds added h = tt
stops_later (Err e) ending xs ys old mid new out out' none adds added h = elim h [
  | before m same ↦ before m same
  | after is firsts pieces ↦
      let both = adds_then xs added.prefix.prefix old mid new adds added.prefix.adds in
      after is (added.prefix.prefix, added_to_none old new (xs ++ added.prefix.prefix) none both) (λ m. refl)
]

-- a call that writes what it made
pub stops_whole : {T W : Type 0} (r : Result T WriteFault) (run : Run) (errors : List Error) (out out' : Counting W) → run.ending ≡ shown → errors ≡ run.errors → r ≢ Err Memory
    → IfErr r (Stops run.ending (all_first run) errors out out')
stops_whole (Ok x) run errors out out' is all not = tt
stops_whole (Err e) run errors out out' is all not = after is ([], all ∙ sym (append-nil run.errors)) (λ m. absurd (not (ap Err m)))
