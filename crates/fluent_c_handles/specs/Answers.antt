-- What a slot keeps, what a call may do of it, and how C is told: the status by its number, and texts in buffers.
use Rattle.std.specs.Prelude.{◌≡◌, ◌≤◌, ◌<◌, ◌⊎◌, ℕ, Bool, List, [], ◌∷◌, ◌++◌, length, drop, map, Option, Some, None, String, string_bytes, Ok, Err, if◌then◌else◌, nat_lt, unwrap_or}
use Rattle.std.specs.Option.{option_map}
use Rattle.std.specs.Str.{IsUtf8}
use Rattle.std.proofs.Common.{Global}
use Rattle.fluent_text.specs.Changes.{Change, new, old}
use Rattle.fluent_ast.specs.Tree.{Text, Pattern}
use Rattle.fluent_plural_rules.specs.LanguageTable.{cldr_plurals}
use Rattle.fluent_plural_rules.specs.Languages.{Texts, rules_of}
use Rattle.fluent_plural_rules.specs.RuleTexts.{IsParse, category_of}
use Rattle.fluent_plural_rules.specs.RuleTree.{Rules}
use Rattle.fluent_plural_rules.specs.declared.rule_texts.fault.RuleFault.TheVariants as rule
use Rattle.fluent_syntax.specs.Chunks.{entries}
use Rattle.fluent_semantics.specs.Bundle.{Bundle, empty_bundle, after, after_all, add_builtins, add_resource, set_use_isolating}
use Rattle.fluent_semantics.specs.Number.{is_text}
use Rattle.fluent_semantics.specs.Value.{Plurals}
use Rattle.fluent_bundle.specs.BundleView.{attribute_at, meant, value_at}
use Rattle.fluent_bundle.specs.declared.bundle.FluentBundle.{FluentBundle}
use Rattle.fluent_answers.specs.Asked.{formatter_of, function_of, transform_of}
use Rattle.fluent_answers.specs.OwnValues.{own_custom, own_text}
use Rattle.fluent_answers.specs.Tables.{Table}
use Rattle.fluent_answers.specs.declared.fault.Fault.TheVariants as argument
use Rattle.fluent_answers.specs.declared.formatter.AskedFormatter.{AskedFormatter}
use Rattle.fluent_answers.specs.declared.function.AskedFunction.{AskedFunction}
use Rattle.fluent_answers.specs.declared.own.OwnValue.{OwnValue}
use Rattle.fluent_answers.specs.declared.transform.AskedTransform.{AskedTransform}
use Rattle.fluent_c_handles.specs.Family.{Declares, answered_by, nothing_declared}
use Rattle.fluent_c_handles.specs.declared.answer.Answer.{Answer}
use Rattle.fluent_c_handles.specs.declared.answer.Answer.TheVariants as answer
use Rattle.fluent_c_handles.specs.declared.declared.Declared.{Declared}
use Rattle.fluent_c_handles.specs.declared.opening.OpenFault.{OpenFault}
use Rattle.fluent_c_handles.specs.declared.opening.OpenFault.TheVariants as opening
use Rattle.fluent_c_handles.specs.declared.slot.Slot.{Slot}
use Rattle.fluent_c_handles.specs.declared.sources.SourceFault.{SourceFault}
use Rattle.fluent_c_handles.specs.declared.sources.SourceFault.TheVariants as source_fault
use Rattle.fluent_c_handles.specs.declared.stock.Stock.{Stock}
use Rattle.fluent_c_handles.specs.declared.texts.FormatFault.TheVariants as format
use Rattle.fluent_c_handles.specs.declared.texts.Lengths.{Lengths}

-- ---- what is kept

-- What a bundle is by all that the caller answers, what the caller declared that it answers, and what was told of the source that
-- was added last.
pub record Kept : Type 0 where
  pub by : Table → Bundle Text
  pub declared : Declares
  pub told : Text

-- Where nothing is answered each function gives an error. What an id names is, but for functions, the same whatever is answered.
abbrev pub unanswered : Kept → Bundle Text
unanswered m = m.by []

abbrev pub Code : Type 0
Code = FluentBundle Rules OwnValue AskedFunction AskedFormatter AskedTransform

-- The bundle of the code, by content: its functions, formatter and transform answer as in the last call.
abbrev pub bundle_view : Code → Bundle Text
bundle_view = meant category_of own_text is_text function_of (λ g v m. formatter_of g v) transform_of

abbrev pub declared_view : Declared → Declares
declared_view d = record { functions = map string_bytes d.functions.items; formatter = d.formatter; transform = d.transform }

-- what the code keeps, whatever was answered in the last call
abbrev pub stock_content : Stock → Kept
stock_content stock = record {
  by = λ all. answered_by all (declared_view stock.declared) (bundle_view stock.bundle);
  declared = declared_view stock.declared;
  told = string_bytes stock.told;
}

-- the same, or nothing where no bundle is open
abbrev pub held_content : Option Stock → Option Kept
held_content held = option_map stock_content held

abbrev pub kept_in : Slot → Option Kept
kept_in slot = held_content slot.handle.held

abbrev pub all_kept : List Slot → List (Option Kept)
all_kept slots = map kept_in slots

abbrev pub all_beside : List Slot → List ℕ
all_beside slots = map (λ slot. slot.beside) slots

-- each slot keeps what it kept
abbrev pub SlotsStay : List Slot → List Slot → Type 0
SlotsStay before after = (all_kept after ≡ all_kept before) × (all_beside after ≡ all_beside before)

-- no bundle is open in it
abbrev pub SlotIsClosed : Slot → Type 0
SlotIsClosed slot = slot.handle.held ≡ None

-- ---- bundles

-- a bundle with the built-in function alone, or bare, without it
abbrev pub new_bundle : Plurals → Bool → Bool → Bundle Text
new_bundle plurals on bare =
    after_all (set_use_isolating on ∷ (if bare then [] else add_builtins ∷ [])) (empty_bundle plurals own_custom)

-- a bundle that was just opened: nothing is declared, and nothing was told
abbrev pub new_kept : Bundle Text → Kept
new_kept bundle = record { by = λ all. bundle; declared = nothing_declared; told = [] }

-- the rules that the Unicode CLDR has for the tag of a language, which has at most 35 bytes
abbrev pub language_rules : Text → Option Texts
language_rules tag = if nat_lt 35 (length tag) then None else rules_of cldr_plurals tag

-- those, or the root's: none, so that each number is `other`
abbrev pub rules_for_tag : Text → Texts
rules_for_tag tag = unwrap_or (language_rules tag) (record { cardinal = []; ordinal = [] })

-- rules can be read
abbrev pub CanBeRead : Text → Text → Type 0
CanBeRead cardinal ordinal = (rules : Rules) × IsParse cardinal ordinal (Ok rules)

-- a tag is text; of one that is too long for a language nothing is asked
abbrev pub IsTag : Text → Type 0
IsTag tag = (35 < length tag) ⊎ IsUtf8 tag

-- A bundle with the rules for a tag.
pub record OpenedByTag (tag : Text) (on bare : Bool) (bundle : Bundle Text) : Type 0 where
  pub text : IsTag tag
  pub rules : Rules
  pub read : IsParse (rules_for_tag tag).cardinal (rules_for_tag tag).ordinal (Ok rules)
  pub is : bundle ≡ new_bundle (category_of rules) on bare

-- why there is none
abbrev pub NotOpenedByTag : Text → OpenFault → Type 0
NotOpenedByTag tag opening.NotText = ¬ (IsTag tag)
NotOpenedByTag tag (opening.Rules f) = ⊥
NotOpenedByTag tag opening.Memory = IsTag tag × CanBeRead (rules_for_tag tag).cardinal (rules_for_tag tag).ordinal

-- a bundle with the entries of a source, of each id the first
abbrev pub with_source : Text → Bundle Text → Bundle Text
with_source source = after (add_resource (entries source))

-- the value of a message, or an attribute of it where a name is given that is not empty
abbrev pub found_at : Text → Text → Bundle Text → Option Pattern
found_at id [] bundle = value_at id bundle
found_at id (c ∷ cs) bundle = attribute_at id (c ∷ cs) bundle

-- ---- calls

-- what a call may leave of a bundle that is open, and answer
abbrev pub BundleCall : Type 1
BundleCall = Kept → Kept → Answer → Type 0

-- the same where perhaps no bundle is open
abbrev pub KeptCall : Type 1
KeptCall = Option Kept → Option Kept → Answer → Type 0

-- a call of a bundle that is open; where none is, it does nothing, and says so
abbrev pub WhenOpen : BundleCall → KeptCall
WhenOpen call None None answer.Closed = Unit {0}
WhenOpen call (Some m) (Some new) a = call m new a
WhenOpen call old new a = ⊥

-- an answer is this text, and no line of errors
abbrev pub IsOneText : Text → String Global → String Global → Type 0
IsOneText t text lines = (string_bytes text ≡ t) × (string_bytes lines ≡ [])

-- ---- statuses

-- the status of a fault
abbrev pub fault_status : SourceFault → ℕ
fault_status source_fault.Memory = 2
fault_status source_fault.NotText = 3
fault_status (source_fault.Open opening.Memory) = 2
fault_status (source_fault.Open opening.NotText) = 4
fault_status (source_fault.Open (opening.Rules rule.Memory)) = 2
fault_status (source_fault.Open (opening.Rules (rule.Syntax kind at))) = 6
fault_status (source_fault.Format format.Memory) = 2
fault_status (source_fault.Format format.NotText) = 7
fault_status (source_fault.Format format.NoMessage) = 8
fault_status (source_fault.Format (format.Arguments argument.Cut)) = 9
fault_status (source_fault.Format (format.Arguments argument.NotText)) = 10
fault_status (source_fault.Format (format.Arguments argument.Memory)) = 2
fault_status (source_fault.Format (format.Answers argument.Cut)) = 9
fault_status (source_fault.Format (format.Answers argument.NotText)) = 10
fault_status (source_fault.Format (format.Answers argument.Memory)) = 2

-- the status of an answer
abbrev pub answer_status : Answer → ℕ
answer_status answer.Done = 0
answer_status answer.Root = 5
answer_status (answer.Texts text lines) = 0
answer_status (answer.Asks question) = 14
answer_status answer.Closed = 11
answer_status answer.Open = 12
answer_status answer.OutOfRange = 13
answer_status answer.Taken = 15
answer_status (answer.Fault f) = fault_status f

-- ---- texts in buffers

-- A buffer was given a text, and n says how long that is: where there is room, the text stands at the start, before what
-- stood there, and else the buffer is as it was.
pub record Given (text : Text) (old new : List ℕ) (n : ℕ) : Type 0 where
  pub count : n ≡ length text
  pub fits : length text ≤ length old → new ≡ text ++ drop (length text) old
  pub short : length old < length text → new ≡ old

-- A text was given: the buffer had room, or (1) it had not.
pub record GivesOne (text : String Global) (out out' : List ℕ) (n status : ℕ) : Type 0 where
  pub given : Given (string_bytes text) out out' n
  pub below : status ≤ 1
  pub fits : status ≡ 0 → n ≤ length out
  pub short : status ≡ 1 → ¬ (n ≤ length out)

-- the text of an answer, or its status alone
abbrev pub GivenOneBy : Answer → List ℕ → List ℕ → ℕ → ℕ → Type 0
GivenOneBy (answer.Texts text lines) out out' n status = GivesOne text out out' n status
GivenOneBy a out out' n status = (status ≡ answer_status a) × (out' ≡ out) × (n ≡ 0)

-- Two texts were given: both buffers had room, or (1) one had not.
pub record GivesTwo (text lines : Text) (out out' err err' : List ℕ) (lengths : Lengths) (status : ℕ) : Type 0 where
  pub text_given : Given text out out' lengths.text
  pub lines_given : Given lines err err' lengths.errors
  pub below : status ≤ 1
  pub fits : status ≡ 0 → (lengths.text ≤ length out) × (lengths.errors ≤ length err)
  pub short : status ≡ 1 → ¬ ((lengths.text ≤ length out) × (lengths.errors ≤ length err))

-- A question was given, where there is room for it.
pub record GivesQuestion (question : List ℕ) (out out' err err' : List ℕ) (lengths : Lengths) (status : ℕ) : Type 0 where
  pub is : status ≡ 14
  pub given : Given question out out' lengths.text
  pub err_left : err' ≡ err
  pub no_errors : lengths.errors ≡ 0

-- Nothing was given.
pub record GivesNone (out out' err err' : List ℕ) (lengths : Lengths) : Type 0 where
  pub out_left : out' ≡ out
  pub err_left : err' ≡ err
  pub zero : (lengths.text ≡ 0) × (lengths.errors ≡ 0)

-- the texts of an answer, or its status alone
abbrev pub GivenBy : Answer → List ℕ → List ℕ → List ℕ → List ℕ → Lengths → ℕ → Type 0
GivenBy (answer.Texts text lines) out out' err err' lengths status = GivesTwo (string_bytes text) (string_bytes lines) out out' err err' lengths status
GivenBy (answer.Asks question) out out' err err' lengths status = GivesQuestion question.items out out' err err' lengths status
GivenBy answer.Done out out' err err' lengths status = (status ≡ 0) × GivesNone out out' err err' lengths
GivenBy answer.Root out out' err err' lengths status = (status ≡ 5) × GivesNone out out' err err' lengths
GivenBy answer.Closed out out' err err' lengths status = (status ≡ 11) × GivesNone out out' err err' lengths
GivenBy answer.Open out out' err err' lengths status = (status ≡ 12) × GivesNone out out' err err' lengths
GivenBy answer.OutOfRange out out' err err' lengths status = (status ≡ 13) × GivesNone out out' err err' lengths
GivenBy answer.Taken out out' err err' lengths status = (status ≡ 15) × GivesNone out out' err err' lengths
GivenBy (answer.Fault f) out out' err err' lengths status = (status ≡ fault_status f) × GivesNone out out' err err' lengths

-- ---- a call on a slot, which keeps this before it and after it

-- It was done, or it was not, as the status says.
pub record Done (call : KeptCall) (before after : Option Kept) (status : ℕ) : Type 0 where
  pub answer : Answer
  pub done : call before after answer
  pub is : status ≡ answer_status answer

-- It gave a text, or nothing, as the status says.
pub record TextGiven (call : KeptCall) (before after : Option Kept) (out out' : List ℕ) (n status : ℕ) : Type 0 where
  pub answer : Answer
  pub done : call before after answer
  pub given : GivenOneBy answer out out' n status

-- It gave a text and the lines of its errors, or nothing, as the status says.
pub record TextsGiven (call : KeptCall) (before after : Option Kept) (out out' err err' : List ℕ) (lengths : Lengths) (status : ℕ) : Type 0 where
  pub answer : Answer
  pub done : call before after answer
  pub given : GivenBy answer out out' err err' lengths status

-- ---- the same of what the code is handed

-- what the caller keeps beside a bundle is left to it
abbrev pub StaysBeside : Change Slot → Type 0
StaysBeside slot = (new slot).beside ≡ (old slot).beside

abbrev pub SlotDoes : KeptCall → Change Slot → ℕ → Type 0
SlotDoes call slot status = Done call (kept_in (old slot)) (kept_in (new slot)) status × StaysBeside slot

abbrev pub SlotGivesText : KeptCall → Change Slot → Change (List ℕ) → Change ℕ → ℕ → Type 0
SlotGivesText call slot out length status =
    TextGiven call (kept_in (old slot)) (kept_in (new slot)) (old out) (new out) (new length) status × StaysBeside slot

abbrev pub SlotGivesTexts : KeptCall → Change Slot → Change (List ℕ) → Change (List ℕ) → Change Lengths → ℕ → Type 0
SlotGivesTexts call slot out err lengths status =
    TextsGiven call (kept_in (old slot)) (kept_in (new slot)) (old out) (new out) (old err) (new err) (new lengths) status × StaysBeside slot

abbrev pub SlotCloses : Change Slot → Type 0
SlotCloses slot = SlotIsClosed (new slot) × StaysBeside slot
