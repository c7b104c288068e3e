-- A message is formatted: its value or an attribute, with arguments in bytes and what the caller answered, by one bundle, by the
-- first of several, or by the bundle of one source.
use Rattle.std.specs.Prelude.{◌≡◌, ◌≢◌, ◌≤◌, ◌<◌, ℕ, Bool, true, false, List, [], ◌∷◌, ◌++◌, length, get_or, Option, Some, None, is_some, string_bytes}
use Rattle.std.specs.List.{find, position}
use Rattle.std.specs.Option.{option_map}
use Rattle.std.specs.Str.{IsUtf8}
use Rattle.fluent_text.specs.Changes.{Change, new, old}
use Rattle.fluent_ast.specs.Tree.{Text, Pattern, no_attribute, attribute}
use Rattle.fluent_semantics.specs.Bundle.{Bundle}
use Rattle.fluent_semantics.specs.Errors.{Error, Reference, to_function, to_message, to_term, to_variable, lost, no_value, missing_default, cyclic, too_many_placeables, overriding, parser_error, resolver_error, error_text}
use Rattle.fluent_semantics.specs.Result.{formatted, written_pattern}
use Rattle.fluent_answers.specs.Answered.{first_answer}
use Rattle.fluent_answers.specs.Questions.{IsQuestion}
use Rattle.fluent_answers.specs.Records.{Are, AreAnswers, NotRead, NotReadAsAnswers, Record}
use Rattle.fluent_answers.specs.Tables.{Table}
use Rattle.fluent_answers.specs.Values.{argument_values}
use Rattle.fluent_answers.specs.declared.question.Asker.{Asker}
use Rattle.fluent_c_handles.specs.Family.{Declares, is_declared, is_something}
use Rattle.fluent_c_handles.specs.Answers.{BundleCall, Given, GivesNone, KeptCall, Kept, NotOpenedByTag, OpenedByTag, TextsGiven, WhenOpen, all_kept, fault_status, found_at, unanswered, with_source}
use Rattle.fluent_c_handles.specs.declared.answer.Answer.TheVariants as answer
use Rattle.fluent_c_handles.specs.declared.slot.Slot.{Slot}
use Rattle.fluent_c_handles.specs.declared.sources.SourceFault.{SourceFault}
use Rattle.fluent_c_handles.specs.declared.sources.SourceFault.TheVariants as source_fault
use Rattle.fluent_c_handles.specs.declared.texts.FormatFault.{FormatFault}
use Rattle.fluent_c_handles.specs.declared.texts.FormatFault.TheVariants as fault
use Rattle.fluent_c_handles.specs.declared.texts.Form.{Form}
use Rattle.fluent_c_handles.specs.declared.texts.Form.TheVariants as form
use Rattle.fluent_c_handles.specs.declared.texts.Lengths.{Lengths}

-- ---- the lines of errors

abbrev pub error_line : Error → Text
error_line error = error_text error ++ 10 ∷ []

abbrev pub error_lines : List Error → Text
error_lines [] = []
error_lines (error ∷ errors) = error_line error ++ error_lines errors

-- ---- errors as records

-- an id and the name of an attribute, either of which may be empty: a zero byte ends each
abbrev pub record_after : Text → Text → Text
record_after id name = id ++ 0 ∷ (name ++ 0 ∷ [])

-- the same behind the letter of a kind
abbrev pub record_of : ℕ → Text → Text → Text
record_of letter id name = letter ∷ record_after id name

-- what could not be found: a function `f`, a message `m` or its attribute `a`, a term `t` or its attribute `b`, a variable `v`
abbrev pub reference_record : Reference → Text
reference_record (to_function f) = record_of 102 f []
reference_record (to_message m no_attribute) = record_of 109 m []
reference_record (to_message m (attribute a)) = record_of 97 m a
reference_record (to_term t no_attribute) = record_of 116 t []
reference_record (to_term t (attribute a)) = record_of 98 t a
reference_record (to_variable v) = record_of 118 v []

-- A message without a value `n`, a select without a default `d`, a cycle `c`, too many placeables `p`. What is no error of a
-- text is `?`.
abbrev pub error_record : Error → Text
error_record (resolver_error (lost r)) = reference_record r
error_record (resolver_error (no_value id)) = record_of 110 id []
error_record (resolver_error missing_default) = record_of 100 [] []
error_record (resolver_error cyclic) = record_of 99 [] []
error_record (resolver_error too_many_placeables) = record_of 112 [] []
error_record (overriding _ id) = record_of 63 id []
error_record (parser_error _ _) = record_of 63 [] []

abbrev pub error_records : List Error → Text
error_records [] = []
error_records (error ∷ errors) = error_record error ++ error_records errors

-- how errors are told: a line for each, or a record
abbrev pub told_as : Bool → List Error → Text
told_as true = error_records
told_as false = error_lines

abbrev pub told_in : Form → List Error → Text
told_in form.Lines = error_lines
told_in form.Records = error_records

-- ---- by one bundle

-- The message is there and the arguments can be read: these are its text and what is told of its errors.
pub record TextsIn (tell : List Error → Text) (bundle : Bundle Text) (id name args shown told : List ℕ) : Type 0 where
  pub texts : IsUtf8 id × IsUtf8 name
  pub pattern : Pattern
  pub all : List Record
  pub found : found_at id name bundle ≡ Some pattern
  pub read : Are all args
  pub text : shown ≡ formatted bundle (written_pattern bundle (argument_values all) pattern).value
  pub errors : told ≡ tell (written_pattern bundle (argument_values all) pattern).errors

-- The same as it is written: the formatter is asked about what is placed in the text, and not about the whole.
pub record WritesIn (tell : List Error → Text) (bundle : Bundle Text) (id name args shown told : List ℕ) : Type 0 where
  pub texts : IsUtf8 id × IsUtf8 name
  pub pattern : Pattern
  pub all : List Record
  pub found : found_at id name bundle ≡ Some pattern
  pub read : Are all args
  pub text : shown ≡ (written_pattern bundle (argument_values all) pattern).value
  pub errors : told ≡ tell (written_pattern bundle (argument_values all) pattern).errors

-- The id and the name are texts, and there is such a message.
pub record IsThere (bundle : Bundle Text) (id name : Text) : Type 0 where
  pub texts : IsUtf8 id × IsUtf8 name
  pub found : found_at id name bundle ≢ None

-- The arguments can be read.
pub record AreArguments (args : List ℕ) : Type 0 where
  pub all : List Record
  pub read : Are all args

-- Why nothing is formatted. A message that is not there is told before its arguments are read.
abbrev pub NotFormattedIn : Bundle Text → Text → Text → List ℕ → FormatFault → Type 0
NotFormattedIn bundle id name args fault.NotText = ¬ (IsUtf8 id × IsUtf8 name)
NotFormattedIn bundle id name args fault.NoMessage = (IsUtf8 id × IsUtf8 name) × (found_at id name bundle ≡ None)
NotFormattedIn bundle id name args (fault.Arguments f) = IsThere bundle id name × NotRead args f
NotFormattedIn bundle id name args (fault.Answers f) = ⊥
NotFormattedIn bundle id name args fault.Memory = IsThere bundle id name × AreArguments args

-- ---- by one that is kept, and what the caller answered

-- Why nothing is formatted: the answers, where there may be some, are read after the arguments.
abbrev pub NotFormattedBy : Bundle Text → Declares → List ℕ → Text → Text → List ℕ → FormatFault → Type 0
NotFormattedBy bundle d answers id name args fault.NotText = NotFormattedIn bundle id name args fault.NotText
NotFormattedBy bundle d answers id name args fault.NoMessage = NotFormattedIn bundle id name args fault.NoMessage
NotFormattedBy bundle d answers id name args (fault.Arguments f) = NotFormattedIn bundle id name args (fault.Arguments f)
NotFormattedBy bundle d answers id name args (fault.Answers f) = (is_something d ≡ true) × (IsThere bundle id name × AreArguments args) × NotReadAsAnswers answers f
NotFormattedBy bundle d answers id name args fault.Memory = NotFormattedIn bundle id name args fault.Memory

-- A question is what something that was declared asks: a function of its name, the formatter, or the transform.
pub record IsAsked (d : Declares) (question : List ℕ) : Type 0 where
  pub asker : Asker
  pub declared : is_declared asker d ≡ true
  pub asks : ∥ IsQuestion asker question ∥₁

-- The caller is asked what it has not answered. Message, arguments and answers are there.
pub record Asks (bundle : Bundle Text) (d : Declares) (answers id name args question : List ℕ) : Type 0 where
  pub there : IsThere bundle id name
  pub arguments : AreArguments args
  pub records : List Record
  pub read : AreAnswers records answers
  pub unanswered : first_answer question records ≡ None
  pub asks : IsAsked d question

-- its text, and what is told of its errors, by all that the caller answers; or a question
abbrev pub FormatsBy : Table → List ℕ → (List Error → Text) → Text → Text → List ℕ → BundleCall
FormatsBy all answers tell id name args m new (answer.Texts text told) = (new ≡ m) × WritesIn tell (m.by all) id name args (string_bytes text) (string_bytes told)
FormatsBy all answers tell id name args m new (answer.Asks question) = (new ≡ m) × Asks (m.by all) m.declared answers id name args question.items
FormatsBy all answers tell id name args m new (answer.Fault (source_fault.Format f)) = (new ≡ m) × NotFormattedBy (m.by all) m.declared answers id name args f
FormatsBy all answers tell id name args m new a = ⊥

-- ---- by the first of several

-- whether the value, or the attribute, is there; where no bundle is open, the caller is to be told
abbrev pub has_or_closed : Text → Text → Option (Bundle Text) → Bool
has_or_closed id name None = true
has_or_closed id name (Some bundle) = is_some (found_at id name bundle)

-- the same of what is kept
abbrev pub answers : Text → Text → Option Kept → Bool
answers id name kept = has_or_closed id name (option_map unanswered kept)

-- the first that does
abbrev pub first_to_answer : Text → Text → List (Option Kept) → Option (Option Kept)
first_to_answer id name all = find (answers id name) all

-- as a call of it alone, which leaves it as it is; nothing is given (8) where none answers
abbrev pub AnswersFirst : Option (Option Kept) → KeptCall → List ℕ → List ℕ → List ℕ → List ℕ → Lengths → ℕ → Type 0
AnswersFirst None call out out' err err' lengths status = (status ≡ 8) × GivesNone out out' err err' lengths
AnswersFirst (Some kept) call out out' err err' lengths status = TextsGiven call kept kept out out' err err' lengths status

-- The first of these bundles formats a message, where its id and the attribute's name are UTF-8; else nothing is given (7).
pub record FirstGives (all : Table) (given : List ℕ) (tell : List Error → Text) (id name : Text) (args : List ℕ) (slots : List Slot) (out out' err err' : List ℕ) (lengths : Lengths) (status : ℕ) : Type 0 where
  pub texts : IsUtf8 id × IsUtf8 name
      → AnswersFirst (first_to_answer id name (all_kept slots)) (WhenOpen (FormatsBy all given tell id name args)) out out' err err' lengths status
  pub no_texts : ¬ (IsUtf8 id × IsUtf8 name) → (status ≡ 7) × GivesNone out out' err err' lengths

-- the same of what the code is handed
abbrev pub FormatsFirst : Table → List ℕ → (List Error → Text) → Text → Text → List ℕ → Change (List Slot) → Change (List ℕ) → Change (List ℕ) → Change Lengths → ℕ → Type 0
FormatsFirst all given tell id name args slots out err lengths status =
    FirstGives all given tell id name args (old slots) (old out) (new out) (old err) (new err) (new lengths) status

-- ---- which one answers

-- the status: it has the message, or is not open
abbrev pub found_status : Option Kept → ℕ
found_status None = 11
found_status (Some m) = 0

-- the index of the first that answers, and its status; or how many there are, where none does (8)
abbrev pub IsFoundAt : List (Option Kept) → Option ℕ → ℕ → ℕ → Type 0
IsFoundAt all None index status = (index ≡ length all) × (status ≡ 8)
IsFoundAt all (Some at) index status = (index ≡ at) × (status ≡ found_status (get_or all at None))

-- The same where the id and the attribute's name are UTF-8; else none is asked (7).
pub record FirstFound (id name : Text) (all : List (Option Kept)) (index status : ℕ) : Type 0 where
  pub texts : IsUtf8 id × IsUtf8 name → IsFoundAt all (position (answers id name) all) index status
  pub no_texts : ¬ (IsUtf8 id × IsUtf8 name) → (index ≡ length all) × (status ≡ 7)

-- the same of what the code is handed
abbrev pub FindsFirst : Text → Text → Change (List Slot) → Change ℕ → ℕ → Type 0
FindsFirst id name slots index status = FirstFound id name (all_kept (old slots)) (new index) status

-- ---- by the bundle of one source

-- The message is there and the arguments can be read: its text and the lines of its errors were given.
pub record FormatsIn (bundle : Bundle Text) (id name args out out' err err' : List ℕ) (lengths : Lengths) : Type 0 where
  pub pattern : Pattern
  pub all : List Record
  pub found : found_at id name bundle ≡ Some pattern
  pub read : Are all args
  pub text : Given (formatted bundle (written_pattern bundle (argument_values all) pattern).value) out out' lengths.text
  pub errors : Given (error_lines (written_pattern bundle (argument_values all) pattern).errors) err err' lengths.errors

-- The bundle of the language with the source formats the message.
pub record GivesOf (tag : Text) (on : Bool) (source id name args out out' err err' : List ℕ) (lengths : Lengths) : Type 0 where
  pub bundle : Bundle Text
  pub opened : OpenedByTag tag on false bundle
  pub formats : FormatsIn (with_source source bundle) id name args out out' err err' lengths

-- That bundle doesn't, and why.
pub record FailsOf (tag : Text) (on : Bool) (source id name args : List ℕ) (f : FormatFault) : Type 0 where
  pub bundle : Bundle Text
  pub opened : OpenedByTag tag on false bundle
  pub fails : NotFormattedIn (with_source source bundle) id name args f

-- There is something to read, for a bundle that is opened.
pub record TakesMemory (tag : Text) (on : Bool) (source : Text) : Type 0 where
  pub text : IsUtf8 source
  pub some : source ≢ []
  pub bundle : Bundle Text
  pub opened : OpenedByTag tag on false bundle

-- why nothing is answered
abbrev pub RefusesOf : Text → Bool → Text → Text → Text → List ℕ → SourceFault → Type 0
RefusesOf tag on source id name args source_fault.NotText = ¬ (IsUtf8 source)
RefusesOf tag on source id name args (source_fault.Open f) = NotOpenedByTag tag f
RefusesOf tag on source id name args (source_fault.Format f) = FailsOf tag on source id name args f
RefusesOf tag on source id name args source_fault.Memory = TakesMemory tag on source

-- There is a fault with this status, and its cause.
pub record RefusesBy (tag : Text) (on : Bool) (source id name args : List ℕ) (status : ℕ) : Type 0 where
  pub fault : SourceFault
  pub is : status ≡ fault_status fault
  pub cause : RefusesOf tag on source id name args fault

-- A text and the lines of its errors, which have these lengths, were given, or nothing was.
pub record SourceFormatted (tag : Text) (on : Bool) (source id name args out out' err err' : List ℕ) (lengths : Lengths) (status : ℕ) : Type 0 where
  pub given : status ≤ 1 → GivesOf tag on source id name args out out' err err' lengths
  -- both buffers had room, or one had not
  pub fits : status ≡ 0 → (lengths.text ≤ length out) × (lengths.errors ≤ length err)
  pub short : status ≡ 1 → ¬ ((lengths.text ≤ length out) × (lengths.errors ≤ length err))
  pub refused : 1 < status → RefusesBy tag on source id name args status
  pub buffers : 1 < status → (out' ≡ out) × (err' ≡ err)
  pub zero : 1 < status → (lengths.text ≡ 0) × (lengths.errors ≡ 0)
  -- that a source is not UTF-8 is told before any memory is taken
  pub owed : ¬ (IsUtf8 source) → status ≡ 3

-- the same of what the code is handed
abbrev pub FormatsSource : Text → Bool → Text → Text → Text → List ℕ → Change (List ℕ) → Change (List ℕ) → Change Lengths → ℕ → Type 0
FormatsSource tag on source id name args out err lengths status =
    SourceFormatted tag on source id name args (old out) (new out) (old err) (new err) (new lengths) status
