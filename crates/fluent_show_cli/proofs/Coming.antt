-- How a run ends, from what its calls answered.
use Rattle.std.proofs.Common.{arith, if◌then◌else◌, ◌≡◌, ◌≢◌, ◌∙◌, sym, ap, subst, refl, ℕ, Bool, true, false, List, [], ◌++◌, ◌⊎◌, inl, inr, Option, Some, None, Result, Ok, Err}
use Rattle.std.specs.Result.{OnOk, IfErr}
use Rattle.std.specs.Str.{IsUtf8, is_utf8}
use Rattle.std.specs.Io.KnownBytes.{Appends}
use Rattle.std.proofs.KnownBytes.{Appends-nil}
use Rattle.std.proofs.lemmas.Str.{IsUtf8-from_is_utf8, is_utf8-from_IsUtf8}
use Rattle.fluent_ast.specs.Tree.{Text, Pattern}
use Rattle.fluent_syntax.specs.Chunks.{entries}
use Rattle.fluent_semantics.specs.Bundle.{Bundle}
use Rattle.fluent_text.specs.Writer.{CountsFault}
use Rattle.fluent_text.specs.declared.counting.Counting.{Counting}
use Rattle.fluent_text.specs.declared.counting.WriteFault.{WriteFault}
use Rattle.fluent_text.specs.declared.counting.WriteFault.TheVariants.{Memory, Writer, Zero}
use Rattle.fluent_semantics.specs.Errors.{Error}
use Rattle.fluent_resolver_state.specs.Status.{reported}
use Rattle.fluent_bundle_entries.specs.declared.errors.FluentError.{FluentError}
use Rattle.fluent_bundle.specs.Formatted.{AddsAll, AddsPrefix}
use Rattle.fluent_semantics.specs.Laws.{Begins}
use Rattle.fluent_semantics.specs.Value.{Plurals}
use Rattle.fluent_plural_rules.specs.declared.rule_texts.fault.RuleFault.{RuleFault}
use Rattle.fluent_plural_rules.specs.declared.rule_texts.fault.RuleFault.TheVariants as rule_fault
use Rattle.fluent_bundle.specs.BundleView.{value_at}
use Rattle.fluent_show_cli.specs.Program.{Ending, exit_status, shown, bad_usage, bad_rule, not_utf8, out_of_memory, reading_failed, Run, First, only, bundle_of, run_value, run_sources, run_source, run_input, run_by, run_asked, run_of, first_of_source, first_by, first_asked}
use Rattle.fluent_show_words.specs.Words.{Asked, asked_by, plurals_asked, HasBadRule}
use Rattle.fluent_show_cli.specs.Runs.{ending_of, ending_of_rules, Inlet, ReadFor, Outlet, outlet, TakesAll, AreLeft, EndsRun, as_defined, by_reading, by_writing, by_memory, by_memory_read, by_memory_shown}
use Rattle.fluent_show_cli.specs.Inside.OutputProgress.{Added, Stops, before, after, Took, TookPart}
use Rattle.fluent_show_cli.specs.declared.input.InputState.{InputState}
use Rattle.fluent_show_cli.specs.declared.input.InputState.TheVariants.{Open, AtEnd}
use Rattle.fluent_show_cli.proofs.Adding.{added_to_none}

-- a writer that was left alone
pub takes_none : (w : Outlet) → TakesAll [] w w
takes_none w = record { taken = Appends-nil w.held; failed = refl; empty = refl }

-- a beginning of the errors of a list that was empty
began_at_none : (old new : List FluentError) (errors : List Error) → old ≡ [] → AddsPrefix errors old new → Begins (reported new) errors
began_at_none old new errors none adds = (adds.rest, sym adds.whole ∙ ap (λ w. w ++ adds.rest) (sym (added_to_none old new adds.prefix none adds.adds)))

-- ---- of a text that was read to its end

module _ {W : Type 0} (contents : W → Option Text) (run : Run) (first : First) (w w' : Counting W) (old new : List FluentError) (none : old ≡ []) where
  -- the writer before and after
  abbrev out : Outlet
  out = outlet contents w

  abbrev out' : Outlet
  out' = outlet contents w'

  -- a call that did all
  pub ends_whole : {T : Type 0} (r : Result T WriteFault) (x : T) (ending : Ending) → r ≡ Ok x → ending ≡ run.ending → Took r run.output out.held out'.held → Added r run.errors old new
      → CountsFault w w' r → EndsRun run first AtEnd out out' ending (reported new)
  ends_whole r x ending was ends took added fault =
      let text = subst (λ q. OnOk q (Appends out.held out'.held run.output)) was took.all in
      let errors = subst (λ q. OnOk q (AddsAll run.errors old new)) was added.all in
      let stood = subst (λ q. CountsFault w w' q) was fault in
      as_defined ends (added_to_none old new run.errors none errors) (record { taken = text; failed = stood.0; empty = stood.1 })

  -- a call that was stopped with the first errors after it
  ends_after : {T : Type 0} (r : Result T WriteFault) (fault : WriteFault) (ending : Ending) → r ≡ Err fault → ending ≡ ending_of fault → Took r run.output out.held out'.held → Begins (reported new) run.errors
      → run.ending ≡ shown → run.ending ≢ not_utf8 → Begins first.errors (reported new) → (fault ≡ Memory → first.whole ≡ false)
      → (r ≡ Err Memory → (w' ≡ w) ⊎ TookPart run.output out.held out'.held) → CountsFault w w' r → EndsRun run first AtEnd out out' ending (reported new)
  ends_after r Memory ending was ends took begun is is_text firsts pieces part fault =
      let stood = subst (λ q. CountsFault w w' q) was fault in
      elim (part was) [
        | inl same ↦ by_memory_read ends refl is_text begun (ap (outlet contents) same)
        | inr some ↦ by_memory_shown ends refl is (pieces refl) firsts begun (some.0, some.1, record { taken = some.2; failed = stood.0; empty = stood.1 })
      ]
  ends_after r (Writer e) ending was ends took begun is is_text firsts pieces part fault =
      by_writing ends is firsts begun (record { taken = took.prefix; rose = inl (subst (λ q. CountsFault w w' q) was fault) })
  ends_after r Zero ending was ends took begun is is_text firsts pieces part fault =
      by_writing ends is firsts begun (record { taken = took.prefix; rose = inr (subst (λ q. CountsFault w w' q) was fault) })

  -- a call that was stopped
  pub ends_fault : {T : Type 0} (r : Result T WriteFault) (fault : WriteFault) (ending : Ending) → r ≡ Err fault → ending ≡ ending_of fault → run.ending ≢ not_utf8
      → Took r run.output out.held out'.held → (r ≡ Err Memory → (w' ≡ w) ⊎ TookPart run.output out.held out'.held) → Added r run.errors old new
      → IfErr r (Stops run.ending first (reported new) w w') → CountsFault w w' r → EndsRun run first AtEnd out out' ending (reported new)
  ends_fault r fault ending was ends is_text took part added stops fault' =
      let begun = began_at_none old new run.errors none added.prefix in
      let stopped : Stops run.ending first (reported new) w w' fault = subst (λ q. IfErr q (Stops run.ending first (reported new) w w')) was stops in
      elim stopped [
        | before m same ↦ by_memory_read (ends ∙ ap ending_of m) refl is_text begun (ap (outlet contents) same)
        | after is firsts pieces ↦ ends_after r fault ending was ends took begun is is_text firsts pieces part fault'
      ]

-- ---- of no text, or none that was read

module _ (run : Run) (first : First) (state : InputState) (out : Outlet) (errors : List FluentError) (none : errors ≡ []) where
  -- a run that shows and reports nothing
  pub ends_only : (ending : Ending) → run ≡ only ending → EndsRun run first state out out ending (reported errors)
  ends_only ending is =
      as_defined (sym (ap (λ r. r.ending) is)) (ap reported none ∙ sym (ap (λ r. r.errors) is)) (subst (λ t. TakesAll t out out) (sym (ap (λ r. r.output) is)) (takes_none out))

  -- a run whose input was not read to its end
  pub ends_unread : EndsRun run first state out out reading_failed (reported errors)
  ends_unread = by_reading refl (ap reported none) refl

  -- a run that got no memory to read into
  pub ends_no_memory : state ≡ Open → EndsRun run first state out out out_of_memory (reported errors)
  ends_no_memory unread = by_memory refl unread (ap reported none) refl

-- ---- which run it is

pub ends_of : (run run' : Run) (first first' : First) (state : InputState) (out out' : Outlet) (ending : Ending) (errors : List Error) → run ≡ run' → first ≡ first'
    → EndsRun run first state out out' ending errors → EndsRun run' first' state out out' ending errors
ends_of run run' first first' state out out' ending errors is same h =
    subst (λ r. EndsRun r first' state out out' ending errors) is (subst (λ f. EndsRun run f state out out' ending errors) same h)

pub of_text : (asked : Asked) (plurals : Plurals) (bytes source : List ℕ) → IsUtf8 bytes → source ≡ bytes → run_source asked plurals source ≡ run_input asked plurals bytes
of_text asked plurals bytes source utf8 same = rw (is_utf8-from_IsUtf8 bytes utf8) (ap (run_source asked plurals) same)

pub of_no_text : (asked : Asked) (plurals : Plurals) (bytes : List ℕ) → ¬ (IsUtf8 bytes) → run_input asked plurals bytes ≡ only not_utf8
of_no_text asked plurals bytes not_text = cases (is_utf8 bytes) refl
  where
    cases : (b : Bool) → is_utf8 bytes ≡ b → run_input asked plurals bytes ≡ only not_utf8
    cases true e = absurd (not_text (IsUtf8-from_is_utf8 bytes e))
    cases false e = rw e refl

-- some bytes are left
pub some_left : (known : Option (List ℕ)) → (bytes : List ℕ) × AreLeft known bytes
some_left None = ([], tt)
some_left (Some bytes) = (bytes, refl)

-- ---- which run reads nothing

-- any that ends otherwise
abbrev IsOfInput : Ending → Type 0
IsOfInput ending = (ending ≢ bad_usage) × (ending ≢ bad_rule) × (exit_status ending ≢ 3)

-- and one of a text
abbrev IsOfText : Ending → Type 0
IsOfText ending = IsOfInput ending × (ending ≢ not_utf8)

of_shown : IsOfText shown
of_shown = ((λ e. cc, λ e. cc, λ e. omega arith), λ e. cc)

of_value : (asked : Asked) (bundle : Bundle Text) (value : Option Pattern) → IsOfText (run_value asked bundle value).ending
of_value asked bundle None = ((λ e. cc, λ e. cc, λ e. omega arith), λ e. cc)
of_value asked bundle (Some pattern) = of_shown

of_sources : (asked : Asked) (plurals : Plurals) (source : Text) (fallback : Option Text) → IsOfText (run_sources asked plurals source fallback).ending
of_sources asked plurals source None =
    let bundle = bundle_of plurals asked.options.isolate (entries source) in
    of_value asked bundle (value_at asked.id bundle)
of_sources asked plurals source (Some fallback) = of_shown

pub is_of_text : (asked : Asked) (plurals : Plurals) (source : Text) → (run_source asked plurals source).ending ≢ not_utf8
is_of_text asked plurals source = (of_sources asked plurals source asked.options.fallback).1

pub never_unread : (asked : Asked) (plurals : Plurals) (source : Text) → (run_source asked plurals source).ending ≢ reading_failed
never_unread asked plurals source failed = (of_sources asked plurals source asked.options.fallback).0.2 (ap exit_status failed)

-- no fault of the output is one of reading
pub no_read : (fault : WriteFault) → ending_of fault ≢ reading_failed
no_read Memory failed = cc
no_read (Writer e) failed = cc
no_read Zero failed = cc

of_input : (asked : Asked) (plurals : Plurals) (bytes : List ℕ) → IsOfInput (run_input asked plurals bytes).ending
of_input asked plurals bytes = cases (is_utf8 bytes)
  where
    cases : (b : Bool) → IsOfInput (if b then run_source asked plurals bytes else only not_utf8).ending
    cases true = (of_sources asked plurals bytes asked.options.fallback).0
    cases false = (λ e. cc, λ e. cc, λ e. omega arith)

-- no run of the program ends with status 3 by itself
pub never_stopped : (words : List Text) (bytes : List ℕ) → exit_status (run_of words bytes).ending ≢ 3
never_stopped words bytes = cases (asked_by words)
  where
    by : (asked : Asked) (plurals : Option Plurals) → exit_status (run_by asked plurals bytes).ending ≢ 3
    by asked None = λ e. omega arith
    by asked (Some plurals) = (of_input asked plurals bytes).2

    cases : (a : Option Asked) → exit_status (run_asked a bytes).ending ≢ 3
    cases None = λ e. omega arith
    cases (Some asked) = by asked (plurals_asked asked.options)

pub none_asked : (words : List Text) (bytes : List ℕ) → (run_of words bytes).ending ≡ bad_usage → asked_by words ≡ None
none_asked words bytes = cases (asked_by words)
  where
    never : (asked : Asked) (plurals : Option Plurals) → (run_by asked plurals bytes).ending ≢ bad_usage
    never asked None = λ e. cc
    never asked (Some plurals) = (of_input asked plurals bytes).0

    cases : (a : Option Asked) → (run_asked a bytes).ending ≡ bad_usage → a ≡ None
    cases None e = refl
    cases (Some asked) e = absurd (never asked (plurals_asked asked.options) e)

pub rule_asked : (words : List Text) (bytes : List ℕ) → (run_of words bytes).ending ≡ bad_rule → HasBadRule (asked_by words)
rule_asked words bytes = cases (asked_by words)
  where
    none : (asked : Asked) (plurals : Option Plurals) → (run_by asked plurals bytes).ending ≡ bad_rule → plurals ≡ None
    none asked None e = refl
    none asked (Some plurals) e = absurd ((of_input asked plurals bytes).1 e)

    cases : (a : Option Asked) → (run_asked a bytes).ending ≡ bad_rule → HasBadRule a
    cases None e = cc
    cases (Some asked) e = none asked (plurals_asked asked.options) e

-- ---- by what the words ask for

-- plural rules that were read
pub by_rules : (asked : Asked) (plurals : Plurals) (bytes : List ℕ) → plurals_asked asked.options ≡ Some plurals → run_input asked plurals bytes ≡ run_asked (Some asked) bytes
by_rules asked plurals bytes read = sym (ap (λ p. run_by asked p bytes) read)

pub first_by_rules : (asked : Asked) (plurals : Plurals) (bytes : List ℕ) → plurals_asked asked.options ≡ Some plurals → first_of_source asked plurals bytes ≡ first_asked (Some asked) bytes
first_by_rules asked plurals bytes read = sym (ap (λ p. first_by asked p bytes) read)

-- and such that were not, where an allocation failed, or one is none
pub ends_unruled : (asked : Asked) (fault : RuleFault) (first : First) (state : InputState) (bytes : List ℕ) (ending : Ending) (out : Outlet) (errors : List FluentError) → errors ≡ []
    → ending ≡ ending_of_rules fault → state ≡ Open → (fault ≢ rule_fault.Memory → plurals_asked asked.options ≡ None)
    → EndsRun (run_asked (Some asked) bytes) first state out out ending (reported errors)
ends_unruled asked (rule_fault.Syntax kind at) first state bytes ending out errors none is unread bad =
    subst (λ e. EndsRun (run_asked (Some asked) bytes) first state out out e (reported errors)) (sym is)
    (ends_only (run_asked (Some asked) bytes) first state out errors none bad_rule (ap (λ p. run_by asked p bytes) (bad (λ e. cc))))
ends_unruled asked rule_fault.Memory first state bytes ending out errors none is unread bad =
    subst (λ e. EndsRun (run_asked (Some asked) bytes) first state out out e (reported errors)) (sym is)
    (ends_no_memory (run_asked (Some asked) bytes) first state out errors none unread)

-- rules that were read are none that can't be
pub never_bad : (asked : Asked) (a : Option Asked) (plurals : Plurals) → Some asked ≡ a → plurals_asked asked.options ≡ Some plurals → ¬ (HasBadRule a)
never_bad asked a plurals is read bad =
    let none : plurals_asked asked.options ≡ None = subst HasBadRule (sym is) bad in
    cc

-- an input of which nothing was read fits them
pub read_for_rules : (fault : RuleFault) (ending : Ending) (old new : Inlet) → ending ≡ ending_of_rules fault → new.state ≡ Open → ReadFor ending old new
read_for_rules (rule_fault.Syntax kind at) ending old new is unread = subst (λ e. ReadFor e old new) (sym is) tt
read_for_rules rule_fault.Memory ending old new is unread = subst (λ e. ReadFor e old new) (sym is) (λ failed. cc)

-- one of the two endings
pub rule_or_memory : (fault : RuleFault) (ending : Ending) → ending ≡ ending_of_rules fault → (ending ≡ bad_rule) ⊎ (ending ≡ out_of_memory)
rule_or_memory (rule_fault.Syntax kind at) ending is = inl is
rule_or_memory rule_fault.Memory ending is = inr is
