-- What comes of a task of the code, and how far a call came with it.
use Rattle.std.specs.Prelude.{◌≡◌, ◌∷◌, ◌⊎◌, [], List, map, Option, Result, Err, IfOk, IfErr, String, string_bytes}
use Rattle.std.specs.Cow.{cow_str_bytes}
use Rattle.std.specs.declared.borrow.CowStr.{CowStr}
use Rattle.std.specs.declared.vec.Vec.{Vec}
use Rattle.std.proofs.Common.{Global}
use Rattle.fluent_text.specs.Writer.{writer_in}
use Rattle.fluent_text.specs.declared.counting.Counting.{Counting}
use Rattle.fluent_text.specs.declared.counting.WriteFault.{WriteFault}
use Rattle.fluent_text.specs.declared.counting.WriteFault.TheVariants.{Memory}
use Rattle.fluent_ast.specs.Tree.{Text}
use Rattle.fluent_ast.specs.declared.errors.ParserError.{ParserError}
use Rattle.fluent_syntax.specs.Parsed.{error_range}
use Rattle.fluent_semantics.specs.Arguments.{Map}
use Rattle.fluent_semantics.specs.Bundle as m
use Rattle.fluent_semantics.specs.Errors.{Error}
use Rattle.fluent_semantics.specs.Value.{Value}
use Rattle.fluent_resolver_state.specs.Status.{reported}
use Rattle.fluent_bundle_entries.specs.declared.errors.FluentError.{FluentError}
use Rattle.fluent_bundle.specs.BundleView.{value_at}
use Rattle.fluent_resource.specs.ResourceView.{entries_of}
use Rattle.fluent_bundle.specs.declared.bundle.FluentBundle.{FluentBundle}
use Rattle.fluent_resource.specs.declared.resource.FluentResource.{FluentResource}
use Rattle.fluent_values.specs.declared.formatter.NoFormatter.{NoFormatter}
use Rattle.fluent_values.specs.declared.function.NoFunction.{NoFunction}
use Rattle.fluent_values.specs.declared.transform.NoTransform.{NoTransform}
use Rattle.fluent_values.specs.declared.types.custom.NoCustom.{NoCustom}
use Rattle.fluent_fallback.specs.Chain.{chain_value}
use Rattle.fluent_show_cli.specs.Program.{line, Run, First, adding_errors, all_first, arguments_of, bundle_of, error_at, first_alone, first_of_source, in_pieces, run_alone, run_both, run_chain, run_fallback, run_source, run_value}
use Rattle.fluent_show_words.specs.Words.{name_and_value}
use Rattle.fluent_show_cli.specs.Runs.{ending_view}
use Rattle.fluent_show_cli.specs.Inside.BundleView.{bundle_view}
use Rattle.fluent_show_cli.specs.Inside.OutputProgress.{Added, Stops, Took, TookPart}
use Rattle.fluent_show_words.specs.PluralsView.{plurals_view}
use Rattle.fluent_show_words.specs.WordsView.{asked_view}
use Rattle.fluent_show_words.specs.declared.plurals.Plurals.{Plurals}
use Rattle.fluent_show_cli.specs.declared.report.Ending.{Ending}
use Rattle.fluent_show_words.specs.declared.request.Request.{Request}
use Rattle.fluent_show_cli.specs.declared.task.Task.{Task}

-- a list of errors, and a bundle, of the code
abbrev pub Errors : Type 0
Errors = Vec FluentError Global

abbrev pub Bundle : Type 0
Bundle = FluentBundle Plurals NoCustom NoFunction NoFormatter NoTransform

-- the arguments of words
abbrev pub words_arguments : List (String Global) → Map (Value Text)
words_arguments words = arguments_of (map name_and_value (map string_bytes words))

-- A run, and what it has before it writes.
pub record Comes : Type 0 where
  pub run : Run
  pub first : First

-- ---- what is wrong with a source of the code, and the bundle of a resource

abbrev pub junk : List ParserError → List Error
junk found = map (λ e. error_at (error_range e)) found

abbrev pub bundle : Task → FluentResource → m.Bundle Text
bundle task r =
    bundle_of (plurals_view task.plurals) task.request.options.isolate (entries_of r)

-- the errors of adding it
abbrev pub adding : Task → FluentResource → List Error
adding task r =
    adding_errors (plurals_view task.plurals) task.request.options.isolate (entries_of r)

-- ---- what comes of it

-- in one bundle
abbrev pub value : Request → Bundle → Comes
value request bundle = record {
  run = run_value (asked_view request) (bundle_view bundle) (value_at request.id.now (bundle_view bundle));
  first = in_pieces [];
}

-- in a bundle of one source
abbrev pub alone : Task → Text → Comes
alone task source = record {
  run = run_alone (asked_view task.request) (plurals_view task.plurals) source;
  first = first_alone (asked_view task.request) (plurals_view task.plurals) source;
}

-- where all is found before anything is written
abbrev pub found : Run → Comes
found run = record { run = run; first = all_first run }

-- in a chain of two bundles
abbrev pub chain : Request → Bundle → Bundle → Comes
chain request first second =
    let asked = asked_view request in
    let bundles = bundle_view first ∷ bundle_view second ∷ [] in
    found (run_chain (chain_value asked.id (arguments_of asked.arguments) bundles))

-- in bundles of one resource each
abbrev pub both : Task → FluentResource → FluentResource → Comes
both task first second =
    let asked = asked_view task.request in
    found (run_both asked (plurals_view task.plurals) (entries_of first) (entries_of second))

-- of a source each
abbrev pub fallback : Task → Text → Text → Comes
fallback task source other =
    found (run_fallback (asked_view task.request) (plurals_view task.plurals) source other)

-- of the input
abbrev pub source : Task → Text → Comes
source task text = record {
  run = run_source (asked_view task.request) (plurals_view task.plurals) text;
  first = first_of_source (asked_view task.request) (plurals_view task.plurals) text;
}

-- ---- how far a call came with it

-- the text that was taken, by what the writer's type says it holds
abbrev pub Puts : {W T E : Type 0} → Result T E → Comes → (W → Option Text)
    → Counting W → Counting W → Type 0
Puts result comes contents out out' =
    Took result comes.run.output (contents (writer_in out)) (contents (writer_in out'))

-- where an allocation failed, nothing was written, or a part of it
abbrev pub PutsPart : {W T : Type 0} → Result T WriteFault → Comes → (W → Option Text)
    → Counting W → Counting W → Type 0
PutsPart result comes contents out out' =
    result ≡ Err Memory → (out' ≡ out)
    ⊎ TookPart comes.run.output (contents (writer_in out)) (contents (writer_in out'))

-- the text that is given, a line without its end
abbrev pub GivesAs : {E : Type 0} → Result (CowStr Global) E → Comes → Type 0
GivesAs result comes = IfOk result (λ text. line (cow_str_bytes text) ≡ comes.run.output)

-- the errors that were added
abbrev pub AddsErrors : {T E : Type 0} → Result T E → List Error → Errors → Errors → Type 0
AddsErrors result all errors errors' = Added result all errors.items errors'.items

abbrev pub AddsAs : {T E : Type 0} → Result T E → Comes → Errors → Errors → Type 0
AddsAs result comes errors errors' = AddsErrors result comes.run.errors errors errors'

-- the ending
abbrev pub EndsAs : {E : Type 0} → Result Ending E → Comes → Type 0
EndsAs result comes = IfOk result (λ ending. ending_view ending ≡ comes.run.ending)

-- where it was stopped, with these errors in a list that was empty
abbrev pub StopsAs : {W T : Type 0} → Result T WriteFault → Comes → Errors
    → Counting W → Counting W → Type 0
StopsAs result comes errors out out' =
    IfErr result (Stops comes.run.ending comes.first (reported errors.items) out out')
