-- What the program shows and says, as a function of its words and the bytes of its input.
-- Words of other crates: `asked_by`, what words ask for, and `plurals_asked`, under which plural rules; `entries`, what the grammar reads in a text,
-- and `junk_ranges`, what it can't; `value_at id`, the value of the message that an id names; `chain_value`, the text of that in the first of some
-- bundles where there is one, or else the id, with what is wrong with it (`Shown`).
use Rattle.std.specs.Prelude.{ℕ, Bool, true, false, if◌then◌else◌, Option, Some, None, List, [], ◌∷◌, map, codes, ◌++◌}
use Rattle.std.specs.Str.{is_utf8}
use Rattle.fluent_ast.specs.Tree.{Text, Pattern, Entry}
use Rattle.fluent_syntax.specs.Chunks.{entries, junk_ranges}
use Rattle.fluent_semantics.specs.Value.{Plurals, Value, Custom, try_number}
use Rattle.fluent_semantics.specs.Errors.{Error, error_text, parser_error}
use Rattle.fluent_semantics.specs.Arguments.{Map, set_all}
use Rattle.fluent_semantics.specs.Bundle.{Bundle, empty_bundle, after, after_all, answered, add_resource, add_builtins, set_use_isolating}
use Rattle.fluent_semantics.specs.Meaning.{Ran}
use Rattle.fluent_semantics.specs.Result.{written_pattern}
use Rattle.fluent_bundle.specs.BundleView.{value_at}
use Rattle.fluent_fallback.specs.Chain.{Shown, chain_value}
use Rattle.fluent_show_words.specs.Words.{Asked, asked_by, plurals_asked}

-- ---- how a run ends: its status, and what it says of that on standard error

pub data Ending : Type 0 where
  -- the text was written
  shown : Ending
  -- no message of this id has a value
  no_message : Text → Ending
  bad_usage bad_rule not_utf8 out_of_memory reading_failed writing_failed : Ending

abbrev pub exit_status : Ending → ℕ
exit_status shown = 0
exit_status (no_message id) = 1
exit_status bad_usage = 2
exit_status bad_rule = 2
exit_status not_utf8 = 2
exit_status out_of_memory = 3
exit_status reading_failed = 3
exit_status writing_failed = 3

-- a text with the line feed that ends it
abbrev pub line : Text → Text
line t = t ++ 10 ∷ []

abbrev pub ending_line : Ending → Text
ending_line shown = []
ending_line (no_message id) = line (codes "fluent_show: no message with a value: " ++ id)
ending_line bad_usage = line (codes "usage: fluent_show [--no-isolate] ID [NAME=VALUE]..")
ending_line bad_rule = line (codes "fluent_show: bad plural rule")
ending_line not_utf8 = line (codes "fluent_show: standard input is not UTF-8")
ending_line out_of_memory = line (codes "fluent_show: out of memory")
ending_line reading_failed = line (codes "fluent_show: reading failed")
ending_line writing_failed = line (codes "fluent_show: writing failed")

-- a line for each error, in order
abbrev pub error_lines : List Error → Text
error_lines [] = []
error_lines (e ∷ es) = line (error_text e) ++ error_lines es

-- all that stands on standard error
abbrev pub said : List Error → Ending → Text
said errors ending = error_lines errors ++ ending_line ending

-- ---- what is written and reported

-- What a run writes on its output, the errors that it reports in order, and how it ends.
pub record Run : Type 0 where
  pub output : Text
  pub errors : List Error
  pub ending : Ending

-- nothing to show and to report
abbrev pub only : Ending → Run
only ending = record { output = []; errors = []; ending = ending }

-- an argument: a value that is the text of a number is that number, any other is a text
abbrev pub argument : Text × Text → Text × Value Text
argument p = (p.0, try_number p.1)

-- the arguments, set in order; the last of a repeated name stands
abbrev pub arguments_of : List (Text × Text) → Map (Value Text)
arguments_of ps = set_all (map argument ps) []

-- the errors of a source's Junks, in order
abbrev pub error_at : ℕ × ℕ → Error
error_at range = parser_error range.0 range.1

abbrev pub junk_errors : Text → List Error
junk_errors source = map error_at (junk_ranges source)

abbrev pub both_junk_errors : Text → Text → List Error
both_junk_errors first second = junk_errors first ++ junk_errors second

-- ---- bundles

-- the application has no values of its own
abbrev pub no_custom : Custom Text
no_custom = record { text = λ t. []; same = λ s t. true }

-- a bundle with the built-in function alone
abbrev pub start : Plurals → Bool → Bundle Text
start plurals on =
    after_all (set_use_isolating on ∷ add_builtins ∷ []) (empty_bundle plurals no_custom)

-- the same with one resource
abbrev pub bundle_of : Plurals → Bool → List Entry → Bundle Text
bundle_of plurals on entries = after (add_resource entries) (start plurals on)

-- the errors of adding it
abbrev pub adding_errors : Plurals → Bool → List Entry → List Error
adding_errors plurals on entries = answered (add_resource entries) (start plurals on)

-- the same in two bundles of one resource each
abbrev pub both_adding_errors : Plurals → Bool → List Entry → List Entry → List Error
both_adding_errors plurals on first second =
    adding_errors plurals on first ++ adding_errors plurals on second

-- ---- what is shown

-- a run that reports these errors before its own
abbrev pub after_errors : List Error → Run → Run
after_errors before r = record { output = r.output; errors = before ++ r.errors; ending = r.ending }

-- a text with a line feed after it, and what is wrong with it
abbrev pub run_text : Text → List Error → Run
run_text text errors = record { output = text ++ 10 ∷ []; errors = errors; ending = shown }

abbrev pub run_pattern : Ran Text → Run
run_pattern r = run_text r.value r.errors

abbrev pub run_chain : Shown → Run
run_chain s = run_text s.text s.errors

-- a message's value under the arguments, if there is one
abbrev pub run_value : Asked → Bundle Text → Option Pattern → Run
run_value asked bundle None = only (no_message asked.id)
run_value asked bundle (Some pattern) =
    run_pattern (written_pattern bundle (arguments_of asked.arguments) pattern)

-- ---- the input alone

-- the message that was asked for, in a bundle of these entries alone
abbrev pub run_entries : Asked → Plurals → List Entry → Run
run_entries asked plurals entries =
    let bundle = bundle_of plurals asked.options.isolate entries in
    after_errors (adding_errors plurals asked.options.isolate entries)
    (run_value asked bundle (value_at asked.id bundle))

-- the same of a source, whose Junks are reported first
abbrev pub run_alone : Asked → Plurals → Text → Run
run_alone asked plurals source =
    after_errors (junk_errors source) (run_entries asked plurals (entries source))

-- ---- the input, and a source that stands in for it

-- what a chain of two bundles gives for the message, each with the entries of one of them
abbrev pub run_both : Asked → Plurals → List Entry → List Entry → Run
run_both asked plurals first second =
    let of = bundle_of plurals asked.options.isolate in
    let bundles = of first ∷ of second ∷ [] in
    after_errors (both_adding_errors plurals asked.options.isolate first second)
    (run_chain (chain_value asked.id (arguments_of asked.arguments) bundles))

-- the same of sources, whose Junks are reported first
abbrev pub run_fallback : Asked → Plurals → Text → Text → Run
run_fallback asked plurals source fallback =
    after_errors (both_junk_errors source fallback)
    (run_both asked plurals (entries source) (entries fallback))

-- ---- the whole run

abbrev pub run_sources : Asked → Plurals → Text → Option Text → Run
run_sources asked plurals source None = run_alone asked plurals source
run_sources asked plurals source (Some fallback) = run_fallback asked plurals source fallback

abbrev pub run_source : Asked → Plurals → Text → Run
run_source asked plurals source = run_sources asked plurals source asked.options.fallback

abbrev pub run_input : Asked → Plurals → List ℕ → Run
run_input asked plurals bytes =
    if is_utf8 bytes then run_source asked plurals bytes else only not_utf8

-- under the plural rules, if they could be read
abbrev pub run_by : Asked → Option Plurals → List ℕ → Run
run_by asked None bytes = only bad_rule
run_by asked (Some plurals) bytes = run_input asked plurals bytes

abbrev pub run_asked : Option Asked → List ℕ → Run
run_asked None bytes = only bad_usage
run_asked (Some asked) bytes = run_by asked (plurals_asked asked.options) bytes

abbrev pub run_of : List Text → List ℕ → Run
run_of words bytes = run_asked (asked_by words) bytes

-- ---- what a run has before it writes

-- the errors that it found, and whether its text is whole by then
pub record First : Type 0 where
  pub errors : List Error
  pub whole : Bool

-- Of the input alone it is what is wrong with the source: the text is written in pieces, as it is made.
abbrev pub in_pieces : List Error → First
in_pieces errors = record { errors = errors; whole = false }

abbrev pub first_alone : Asked → Plurals → Text → First
first_alone asked plurals source =
    in_pieces (junk_errors source ++ adding_errors plurals asked.options.isolate (entries source))

-- With a fallback it is all: the text is made first.
abbrev pub all_first : Run → First
all_first run = record { errors = run.errors; whole = true }

abbrev pub first_of_sources : Asked → Plurals → Text → Option Text → First
first_of_sources asked plurals source None = first_alone asked plurals source
first_of_sources asked plurals source (Some fallback) =
    all_first (run_fallback asked plurals source fallback)

abbrev pub first_of_source : Asked → Plurals → Text → First
first_of_source asked plurals source =
    first_of_sources asked plurals source asked.options.fallback

-- So it is where nothing is written.
abbrev pub first_by : Asked → Option Plurals → List ℕ → First
first_by asked None bytes = all_first (only bad_rule)
first_by asked (Some plurals) bytes = first_of_source asked plurals bytes

abbrev pub first_asked : Option Asked → List ℕ → First
first_asked None bytes = all_first (only bad_usage)
first_asked (Some asked) bytes = first_by asked (plurals_asked asked.options) bytes

abbrev pub first_of : List Text → List ℕ → First
first_of words bytes = first_asked (asked_by words) bytes

-- ---- what a caller sees

-- status, output and the text on standard error
pub record Answer : Type 0 where
  pub status : ℕ
  pub output : Text
  pub errors : Text

abbrev pub answer : Run → Answer
answer r =
    record { status = exit_status r.ending; output = r.output; errors = said r.errors r.ending }

-- the program: words and the bytes of the input to status, output and error text
abbrev pub program : List Text → List ℕ → Answer
program words bytes = answer (run_of words bytes)
