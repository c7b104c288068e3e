-- What a run leaves: of its reader, of its writers, and what they took.
-- Words of other crates: `Consumes old new bytes`, a reader gave these bytes, and `Appends old new text`, a writer took this text, where what they hold
-- is known; `TookPrefix`, it took a beginning of it; `writer_in`, `failed_in`, `empty_in`, the writer that a `Counting` holds and its counts of writes that
-- failed and of those that took nothing; `raised`, one more, or still 2^64 - 1; `Begins prefix all`, these begin those.
use Rattle.std.specs.Prelude.{ℕ, ◌≡◌, ◌≢◌, ◌≤◌, ◌⊎◌, List, length, Option, [], ◌∷◌, ◌++◌, false, IfSome, map, String, string_bytes}
use Rattle.std.specs.Io.KnownBytes.{Consumes, Appends}
use Rattle.std.proofs.Common.{Global}
use Rattle.fluent_text.specs.Taken.{raised, TookPrefix}
use Rattle.fluent_text.specs.Writer.{writer_in, failed_in, empty_in}
use Rattle.fluent_text.specs.declared.counting.Counting.{Counting}
use Rattle.fluent_ast.specs.Tree.{Text}
use Rattle.fluent_semantics.specs.Laws.{Begins}
use Rattle.fluent_semantics.specs.Errors.{Error}
use Rattle.fluent_show_cli.specs.declared.input.InputState.{InputState}
use Rattle.fluent_show_cli.specs.declared.input.InputState.TheVariants.{Open, AtEnd, Failed}
use Rattle.fluent_show_cli.specs.declared.input.Reads.{Reads}
use Rattle.fluent_show_cli.specs.declared.report.Ending.TheVariants.{Shown, NoMessage, Usage, PluralRule, NotUtf8, Memory, Reading, Writing}
use Rattle.fluent_show_cli.specs.Program.{Run, First, Answer, first_of, program, run_of, Ending, bad_usage, bad_rule, out_of_memory, reading_failed, shown, no_message, not_utf8, writing_failed, said, exit_status}
use Rattle.fluent_show_words.specs.Words.{Asked, asked_by}
use Rattle.fluent_plural_rules.specs.declared.rule_texts.fault.RuleFault as rule_faults
use Rattle.fluent_plural_rules.specs.declared.rule_texts.fault.RuleFault.TheVariants as rule_fault
use Rattle.fluent_text.specs.declared.counting.WriteFault as faults
use Rattle.fluent_text.specs.declared.counting.WriteFault.TheVariants as fault
use Rattle.fluent_show_cli.specs.declared.report.Ending as code

-- ---- how much is asked of an input

-- a run makes at most so many single reads
abbrev pub most_reads : ℕ
most_reads = 1000000

-- and each of them has room for at least so many bytes
abbrev pub least_room : ℕ
least_room = 4096

-- ---- what a reader with its room shows

-- the reader itself
unfoldable pub reader_in : {R : Type 0} → Reads R → R
reader_in input = input.inner

-- the room for a single read
unfoldable pub room_in : {R : Type 0} → Reads R → List ℕ
room_in input = input.room

-- how many reads were made
unfoldable pub made_in : {R : Type 0} → Reads R → ℕ
made_in input = input.made

-- what they showed
unfoldable pub state_in : {R : Type 0} → Reads R → InputState
state_in input = input.state

-- ---- what the reads of a run showed

-- no more reads were made than a run may make, and each had its room
abbrev pub ReadsAreBounded : {R : Type 0} → Reads R → Type 0
ReadsAreBounded input = (made_in input ≤ most_reads) × (least_room ≤ length (room_in input))

-- The bytes that a reader has left, where they are known, how many reads a run made, and what they showed.
pub record Inlet : Type 0 where
  pub rest : Option (List ℕ)
  pub made : ℕ
  pub state : InputState

abbrev pub inlet : {R : Type 0} → (R → Option (List ℕ)) → Reads R → Inlet
inlet remaining input =
    record { rest = remaining (reader_in input); made = made_in input; state = state_in input }

-- it gave so many bytes, or more
abbrev pub GivesAtLeast : ℕ → Inlet → Inlet → Type 0
GivesAtLeast n old new = (bytes : List ℕ) × Consumes old.rest new.rest bytes × (n ≤ length bytes)

-- all reads were made that a run may make: each gave a byte or more, and none showed the end
pub record IsUsedUp (old new : Inlet) : Type 0 where
  pub state : new.state ≡ Open
  pub made : new.made ≡ most_reads
  pub given : GivesAtLeast most_reads old new

-- a read failed, or all were made
abbrev pub IsUnread : Inlet → Inlet → Type 0
IsUnread old new = (new.state ≡ Failed) ⊎ IsUsedUp old new

-- what the reads of a run showed that ends so; where the words are not of the form or a plural rule can't be read, it makes none
abbrev pub ReadFor : Ending → Inlet → Inlet → Type 0
ReadFor bad_usage old new = Unit {0}
ReadFor bad_rule old new = Unit {0}
ReadFor reading_failed old new = IsUnread old new
ReadFor out_of_memory old new = new.state ≢ Failed
ReadFor ending old new = new.state ≡ AtEnd

-- ---- a writer that counts its faults

-- What it holds, where that is known, and how many of its writes failed and took nothing.
pub record Outlet : Type 0 where
  pub held : Option Text
  pub failed : ℕ
  pub empty : ℕ

abbrev pub outlet : {W : Type 0} → (W → Option Text) → Counting W → Outlet
outlet contents w = record { held = contents (writer_in w); failed = failed_in w; empty = empty_in w }

-- these stand before one of the others: they begin them, and so they do with that one
abbrev pub Precedes : {A : Type 0} → List A → List A → Type 0
Precedes {A = A} prefix all = (x : A) × Begins (prefix ++ x ∷ []) all

-- one of two counts went up: that of the writes that failed, or that of those that took nothing
abbrev pub Rose : ℕ → ℕ → ℕ → ℕ → Type 0
Rose failed empty failed' empty' =
    ((failed' ≡ raised failed) × (empty' ≡ empty)) ⊎ ((failed' ≡ failed) × (empty' ≡ raised empty))

-- it took this text, and no write failed or took nothing
pub record TakesAll (text : Text) (old new : Outlet) : Type 0 where
  pub taken : Appends old.held new.held text
  pub failed : new.failed ≡ old.failed
  pub empty : new.empty ≡ old.empty

-- the same of a beginning of the text that is not all of it
abbrev pub TakesPart : Text → Outlet → Outlet → Type 0
TakesPart text old new = (prefix : Text) × Precedes prefix text × TakesAll prefix old new

-- a write failed or took nothing, and it took a beginning of the text
pub record Faults (text : Text) (old new : Outlet) : Type 0 where
  pub taken : TookPrefix old.held new.held text
  pub rose : Rose old.failed old.empty new.failed new.empty

-- ---- endings of the code

abbrev pub ending_view : code.Ending → Ending
ending_view Shown = shown
ending_view (NoMessage id) = no_message id.now
ending_view Usage = bad_usage
ending_view PluralRule = bad_rule
ending_view NotUtf8 = not_utf8
ending_view Memory = out_of_memory
ending_view Reading = reading_failed
ending_view Writing = writing_failed

-- a run that a fault of the output ends
abbrev pub ending_of : faults.WriteFault → Ending
ending_of fault.Memory = out_of_memory
ending_of (fault.Writer e) = writing_failed
ending_of fault.Zero = writing_failed

-- a run that plural rules end
abbrev pub ending_of_rules : rule_faults.RuleFault → Ending
ending_of_rules (rule_fault.Syntax kind at) = bad_rule
ending_of_rules rule_fault.Memory = out_of_memory

-- ---- what a run came to, by what it should

-- these are the bytes that a reader has left, where they are known
abbrev pub AreLeft : Option (List ℕ) → List ℕ → Type 0
AreLeft known bytes = IfSome known (λ left. bytes ≡ left)

-- A run that was not stopped: status, output and error text are those of the program.
pub record AnswersAs (answer : Answer) (result : ℕ) (out out' err err' : Outlet) : Type 0 where
  pub status : result ≡ answer.status
  pub output : TakesAll answer.output out out'
  pub errors : TakesAll answer.errors err err'

-- How a run ends before it reports, and the errors that it has then, by what its reads showed.
-- The first things are those that it has before it writes.
pub data EndsRun (run : Run) (first : First) (state : InputState) (out out' : Outlet)
    (ending : Ending) (errors : List Error) : Type 0 where
  -- as it should
  as_defined : ending ≡ run.ending → errors ≡ run.errors → TakesAll run.output out out'
      → EndsRun run first state out out' ending errors
  -- a read failed, or none of all showed the end: nothing was found and written
  by_reading : ending ≡ reading_failed → errors ≡ [] → out' ≡ out
      → EndsRun run first state out out' ending errors
  -- a write failed or took nothing: there was a text to show, and the first errors had been found
  by_writing : ending ≡ writing_failed → run.ending ≡ shown → Begins first.errors errors
      → Begins errors run.errors → Faults run.output out out'
      → EndsRun run first state out out' ending errors
  -- an allocation failed, or so it is said, before a read showed the end: nothing was found and written
  by_memory : ending ≡ out_of_memory → state ≡ Open → errors ≡ [] → out' ≡ out
      → EndsRun run first state out out' ending errors
  -- or after that, where the input is a text: nothing was written
  by_memory_read : ending ≡ out_of_memory → state ≡ AtEnd → run.ending ≢ not_utf8
      → Begins errors run.errors → out' ≡ out → EndsRun run first state out out' ending errors
  -- or while a text was written in pieces, and before the last: the first errors had been found
  by_memory_shown : ending ≡ out_of_memory → state ≡ AtEnd → run.ending ≡ shown
      → first.whole ≡ false → Begins first.errors errors → Begins errors run.errors
      → TakesPart run.output out out' → EndsRun run first state out out' ending errors

-- What is said of these errors and this ending, and the status.
pub data ReportsRun (errors : List Error) (ending : Ending)
    (err err' : Outlet) (result : ℕ) : Type 0 where
  -- all of it
  whole : result ≡ exit_status ending → TakesAll (said errors ending) err err'
      → ReportsRun errors ending err err' result
  -- that an allocation failed for the line of an error, after the lines before it
  short : result ≡ 3 → (prefix : List Error) → Precedes prefix errors
      → TakesAll (said prefix out_of_memory) err err' → ReportsRun errors ending err err' result
  -- a beginning of the one or the other: a write failed or took nothing
  whole_begun : result ≡ 3 → Faults (said errors ending) err err'
      → ReportsRun errors ending err err' result
  short_begun : result ≡ 3 → (prefix : List Error) → Precedes prefix errors
      → Faults (said prefix out_of_memory) err err' → ReportsRun errors ending err err' result

-- A run that comes to these errors: how it ends, what its reads showed for that, and what is said of it.
-- Where the words are not of the form, nothing else can stop it, and where a plural rule can't be read,
-- nothing but want of memory.
pub record RanTo (run : Run) (first : First) (errors : List Error) (input input' : Inlet)
    (out out' err err' : Outlet) (result : ℕ) : Type 0 where
  pub ending : Ending
  pub ends : EndsRun run first input'.state out out' ending errors
  pub usage : run.ending ≡ bad_usage → ending ≡ bad_usage
  pub rule : run.ending ≡ bad_rule → (ending ≡ bad_rule) ⊎ (ending ≡ out_of_memory)
  pub reads : ReadFor ending input input'
  pub reports : ReportsRun errors ending err err' result

-- Why a run ends with status 3.
pub data IsStopped (input input' : Inlet) (out out' err err' : Outlet) : Type 0 where
  -- its input was not read to its end
  unread : IsUnread input input' → IsStopped input input' out out' err err'
  -- a write on its output failed or took nothing
  unwritten : Rose out.failed out.empty out'.failed out'.empty
      → IsStopped input input' out out' err err'
  -- or on standard error
  unsaid : Rose err.failed err.empty err'.failed err'.empty
      → IsStopped input input' out out' err err'
  -- an allocation failed, as standard error says after the lines of some errors
  refused : (errors : List Error) → TakesAll (said errors out_of_memory) err err'
      → IsStopped input input' out out' err err'

-- ---- the same of a run of the code: of its words, its reader and its writers

-- what the words ask for
abbrev pub asked_of : List (String Global) → Option Asked
asked_of words = asked_by (map string_bytes words)

-- no read was made in a run
abbrev pub IsUntouched : {R : Type 0} → Reads R → Reads R → Type 0
IsUntouched input input' =
    (reader_in input' ≡ reader_in input) × (made_in input' ≡ 0) × (state_in input' ≡ Open)

-- an ending was said alone, by what the writer's type says it holds
abbrev pub SaysAlone : {E : Type 0} → (E → Option Text) → code.Ending → Counting E → Counting E → ℕ
    → Type 0
SaysAlone said ending err err' result =
    ReportsRun [] (ending_view ending) (outlet said err) (outlet said err') result

-- by what the types of the reader and of the writers say that these have left and hold
module _ {R W E : Type 0} (remaining : R → Option (List ℕ)) (held : W → Option Text)
    (said : E → Option Text) where
  -- where the status isn't 3, all is as the program defines it
  abbrev pub Works : List (String Global) → Reads R → Counting W → Counting W
      → Counting E → Counting E → ℕ → Type 0
  Works words input out out' err err' result =
      result ≢ 3 → (bytes : List ℕ) × AreLeft (remaining (reader_in input)) bytes
      × AnswersAs (program (map string_bytes words) bytes) result
      (outlet held out) (outlet held out') (outlet said err) (outlet said err')

  -- where it is 3, something stopped it
  abbrev pub Stopped : Reads R → Reads R → Counting W → Counting W → Counting E → Counting E
      → ℕ → Type 0
  Stopped input input' out out' err err' result =
      result ≡ 3 → IsStopped (inlet remaining input) (inlet remaining input')
      (outlet held out) (outlet held out') (outlet said err) (outlet said err')

  -- it came to some errors
  abbrev pub CameTo : List (String Global) → Reads R → Reads R → Counting W → Counting W
      → Counting E → Counting E → ℕ → Type 0
  CameTo words input input' out out' err err' result =
      (bytes : List ℕ) × AreLeft (remaining (reader_in input)) bytes × (errors : List Error)
      × RanTo (run_of (map string_bytes words) bytes) (first_of (map string_bytes words) bytes)
      errors (inlet remaining input) (inlet remaining input')
      (outlet held out) (outlet held out') (outlet said err) (outlet said err') result
