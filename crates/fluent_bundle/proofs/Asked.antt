-- What is asked for by id.
use Rattle.std.proofs.Common.{◌≡◌, ◌∙◌, refl, ap, subst, Option, Some, None, List, [], ◌∷◌, Bool, true, false, Result, Ok, Err, Global}
use Rattle.std.specs.Prelude.{◌≤◌, if◌then◌else◌, OnOk}
use Rattle.std.specs.Option.{option_map, option_and_then}
use Rattle.std.specs.declared.borrow.CowStr.{CowStr}
use Rattle.std.specs.declared.borrow.CowStr.TheVariants.{Borrowed, Owned}
use Rattle.std.specs.declared.alloc.AllocError.{AllocError}
use Rattle.fluent_text.specs.Unescaped.{Borrows}
use Rattle.fluent_text.specs.Writer.{writer_in}
use Rattle.fluent_text.specs.declared.counting.Counting.{Counting}
use Rattle.fluent_text.specs.declared.counting.WriteFault.{WriteFault}
use Rattle.fluent_text.specs.declared.counting.WriteFault.TheVariants as fault
use Rattle.fluent_ast.specs.Tree.{Text, Pattern, Attributes, Attribute, no_attribute, attribute}
use Rattle.fluent_semantics.specs.Arguments.{Map, get}
use Rattle.fluent_semantics.specs.Bundle.{Bundle, Entry, a_message, a_term, a_function, number_builtin, Target, unknown, without_value, found, first_of, message_target}
use Rattle.fluent_semantics.specs.Errors.{Error}
use Rattle.fluent_semantics.specs.Number.{is_text}
use Rattle.fluent_semantics.specs.Result.{formatted, written_pattern, substituted_pattern}
use Rattle.fluent_semantics.specs.Value.{Value}
use Rattle.fluent_bundle_entries.specs.EntryView.{message_content}
use Rattle.fluent_bundle_entries.specs.MessageView.{first_named}
use Rattle.fluent_bundle.specs.Formatted.{AddsPrefix, BorrowsAsked, BorrowsSome, BorrowsText, Errors, GivesAsked, GivesSome, GivesText, KeepsLimit, TakesNoMemory, WritesAll, WritesAsked, WritesFree, WritesPrefix, written_events}
use Rattle.fluent_bundle.specs.Inside.Asked.{pattern_at}
use Rattle.fluent_bundle.specs.declared.bundle.FluentBundle.{FluentBundle}
use Rattle.fluent_bundle.proofs.Formats.{substituted_of}
use Rattle.fluent_bundle.proofs.Givings.{gives_within}

-- the pattern that a reference leads to, if it leads to one
abbrev pub pattern_in : Target → Option Pattern
pattern_in unknown = None
pattern_in without_value = None
pattern_in (found p) = Some p

in_value : (o : Option (Entry Text)) → pattern_in (message_target o no_attribute) ≡ option_and_then (λ m. m.value) (message_content o)
in_value None = refl
in_value (Some (a_message None as')) = refl
in_value (Some (a_message (Some p) as')) = refl
in_value (Some (a_term p as')) = refl
in_value (Some (a_function f)) = refl
in_value (Some number_builtin) = refl

by_name : (b : Bool) (a : Text × Pattern) (t : Target) (o : Option (Text × Pattern)) → pattern_in t ≡ option_map (λ a. a.1) o → pattern_in (if b then found a.1 else t) ≡ option_map (λ a. a.1) (if b then Some a else o)
by_name true a t o h = refl
by_name false a t o h = h

in_first : (name : Text) (as' : Attributes) → pattern_in (first_of name as') ≡ option_map (λ a. a.1) (first_named name as')
in_first name [] = refl
in_first name (a ∷ as') = by_name (is_text a.0 name) a (first_of name as') (first_named name as') (in_first name as')

in_attribute : (name : Text) (o : Option (Entry Text)) → pattern_in (message_target o (attribute name)) ≡ option_and_then (λ m. option_map (λ a. a.1) (first_named name m.attributes)) (message_content o)
in_attribute name None = refl
in_attribute name (Some (a_message v as')) = in_first name as'
in_attribute name (Some (a_term p as')) = refl
in_attribute name (Some (a_function f)) = refl
in_attribute name (Some number_builtin) = refl

-- a reference to a message, and what is asked for by its id
pub asked : (b : Bundle Text) (id : Text) (a : Attribute) (t : Target) → t ≡ message_target (get id b.ids) a → pattern_in t ≡ pattern_at id a b
asked b id no_attribute t is = ap pattern_in is ∙ in_value (get id b.ids)
asked b id (attribute name) t is = ap pattern_in is ∙ in_attribute name (get id b.ids)

-- ---- given

abbrev GivenWithin : {E : Type 0} → Bundle Text → Map (Value Text) → Pattern → Result (CowStr Global) E → Errors → Errors → Type 0
GivenWithin b args p result old new = let means = substituted_pattern b args p in means.opened ≤ b.limit → GivesText (formatted b means.value) means.errors result old.items new.items

abbrev Given : {E : Type 0} → Bundle Text → Map (Value Text) → Pattern → Result (CowStr Global) E → Errors → Errors → Type 0
Given b args p result old new = let means = written_pattern b args p in GivesText (formatted b means.value) means.errors result old.items new.items

gives_some : {D E : Type 0} {all : Text} {wrong : List Error} {text : CowStr Global} {old new : Errors} → GivesText {E = D} all wrong (Ok text) old.items new.items → GivesSome {E = E} all wrong (Ok (Some text)) old new
gives_some h = record { text = ap (λ t. Some t) h.text; adds = h.adds }

gives_none : {E : Type 0} {all : Text} {wrong : List Error} {e : E} {old new : Errors} → GivesSome all wrong (Err e) old new
gives_none = record { text = tt; adds = tt }

-- the text of a pattern that is there
pub gives_asked : {E : Type 0} {asked : Option Pattern} (b : Bundle Text) (args : Map (Value Text)) (p : Pattern) (text : CowStr Global) (old new : Errors) → Some p ≡ asked
    → KeepsLimit b args p → Given {E = E} b args p (Ok text) old new → AddsPrefix (written_pattern b args p).errors old.items new.items → GivesAsked {E = E} b args asked (Ok (Some text)) old new
gives_asked {E = E} b args p text old new is keeps whole prefix =
    let within : GivenWithin {E = E} b args p (Ok text) old new = gives_within b args p (Ok text) old.items new.items keeps whole in
    subst (λ o. GivesAsked {E = E} b args o (Ok (Some text)) old new) is (record { nothing = tt; within = λ few. gives_some (within few); whole = gives_some whole; prefix = prefix })

pub gives_refused : {E : Type 0} {asked : Option Pattern} (b : Bundle Text) (args : Map (Value Text)) (p : Pattern) (e : E) (old new : Errors) → Some p ≡ asked
    → AddsPrefix (written_pattern b args p).errors old.items new.items → GivesAsked b args asked (Err e) old new
gives_refused b args p e old new is prefix =
    subst (λ o. GivesAsked b args o (Err e) old new) is (record { nothing = tt; within = λ few. gives_none; whole = gives_none; prefix = prefix })

pub gives_nothing : {E : Type 0} {asked : Option Pattern} (b : Bundle Text) (args : Map (Value Text)) (old : Errors) → None ≡ asked → GivesAsked {E = E} b args asked (Ok None) old old
gives_nothing {E = E} b args old is = subst (λ o. GivesAsked {E = E} b args o (Ok None) old old) is (record { nothing = (refl, refl); within = tt; whole = tt; prefix = tt })

-- it is borrowed
borrows_some : (text : CowStr Global) (t : Text) → Borrows (Ok text) t → BorrowsSome (Ok (Some text)) t
borrows_some (Borrowed s) t h = h
borrows_some (Owned s) t h = h

module _ {M C F G X : Type 0} (b : FluentBundle M C F G X) where
  pub borrows_asked : {asked : Option Pattern} (p : Pattern) (text : CowStr Global) → Some p ≡ asked → BorrowsText b p (Ok text) → BorrowsAsked b asked (Ok (Some text))
  borrows_asked p text is h = subst (λ o. BorrowsAsked b o (Ok (Some text))) is (λ t sole plain bare. borrows_some text t (h t sole plain bare))

  pub borrows_failed : {asked : Option Pattern} (p : Pattern) (e : AllocError) → Some p ≡ asked → BorrowsText b p (Err e) → BorrowsAsked b asked (Err e)
  borrows_failed p e is h = subst (λ o. BorrowsAsked b o (Err e)) is (λ t sole plain bare. h t sole plain bare)

  pub borrows_nothing : {asked : Option Pattern} → None ≡ asked → BorrowsAsked b asked (Ok None)
  borrows_nothing is = subst (λ o. BorrowsAsked b o (Ok None)) is tt

-- ---- written

abbrev TakenWithin : {W T E : Type 0} → Bundle Text → Map (Value Text) → Pattern → Result T E → (W → Option Text) → Counting W → Counting W → Errors → Errors → Type 0
TakenWithin b args p result contents w w' old new = let means = substituted_pattern b args p in means.opened ≤ b.limit → OnOk result (WritesAll means.value means.errors (contents (writer_in w)) (contents (writer_in w')) old.items new.items)

abbrev Taken : {W T E : Type 0} → Bundle Text → Map (Value Text) → Pattern → Result T E → (W → Option Text) → Counting W → Counting W → Errors → Errors → Type 0
Taken b args p result contents w w' old new = let means = written_pattern b args p in OnOk result (WritesAll means.value means.errors (contents (writer_in w)) (contents (writer_in w')) old.items new.items)

abbrev TakenBeginning : {W : Type 0} → Bundle Text → Map (Value Text) → Pattern → (W → Option Text) → Counting W → Counting W → Errors → Errors → Type 0
TakenBeginning b args p contents w w' old new = WritesPrefix (written_events b args p) (contents (writer_in w)) (contents (writer_in w')) old.items new.items

-- the text of a pattern that is there
pub writes_asked : {W E : Type 0} {asked : Option Pattern} (b : Bundle Text) (args : Map (Value Text)) (p : Pattern) (contents : W → Option Text) (w w' : Counting W) (old new : Errors) → Some p ≡ asked
    → KeepsLimit b args p → Taken {T = Unit {0}} {E = E} b args p (Ok tt) contents w w' old new → TakenBeginning b args p contents w w' old new → WritesAsked {E = E} b args asked (Ok true) contents w w' old new
writes_asked {E = E} b args p contents w w' old new is keeps whole prefix =
    let within : TakenWithin {T = Unit {0}} {E = E} b args p (Ok tt) contents w w' old new = substituted_of {T = Unit {0}} {E = E} (Ok tt) _ _ old.items new.items b args p keeps whole in
    subst (λ o. WritesAsked {E = E} b args o (Ok true) contents w w' old new) is (record { there = refl; nothing = tt; within = within; whole = whole; prefix = prefix })

pub writes_refused : {W E : Type 0} {asked : Option Pattern} (b : Bundle Text) (args : Map (Value Text)) (p : Pattern) (e : E) (contents : W → Option Text) (w w' : Counting W) (old new : Errors) → Some p ≡ asked
    → TakenBeginning b args p contents w w' old new → WritesAsked b args asked (Err e) contents w w' old new
writes_refused b args p e contents w w' old new is prefix =
    subst (λ o. WritesAsked b args o (Err e) contents w w' old new) is (record { there = tt; nothing = tt; within = λ few. tt; whole = tt; prefix = prefix })

pub writes_nothing : {W E : Type 0} {asked : Option Pattern} (b : Bundle Text) (args : Map (Value Text)) (contents : W → Option Text) (w : Counting W) (old : Errors) → None ≡ asked → WritesAsked {E = E} b args asked (Ok false) contents w w old old
writes_nothing {E = E} b args contents w old is =
    subst (λ o. WritesAsked {E = E} b args o (Ok false) contents w w old old) is (record { there = refl; nothing = (refl, refl, refl); within = tt; whole = tt; prefix = tt })

-- it takes no memory
module _ {M C F G X : Type 0} (b : FluentBundle M C F G X) where
  pub free_asked : {asked : Option Pattern} (p : Pattern) → Some p ≡ asked → TakesNoMemory b asked (Ok true)
  free_asked p is = subst (λ o. TakesNoMemory b o (Ok true)) is (λ texts plain same. cc)

  pub free_refused : {T : Type 0} {r : Result T WriteFault} {asked : Option Pattern} (p : Pattern) (e : WriteFault) → r ≡ Err e → Some p ≡ asked → WritesFree b p r → TakesNoMemory b asked (Err e)
  free_refused p e at is h = subst (λ o. TakesNoMemory b o (Err e)) is (λ texts plain same. let memory : e ≡ fault.Memory = cc in h texts plain (at ∙ ap (λ x. Err x) memory))

  pub free_nothing : {asked : Option Pattern} → None ≡ asked → TakesNoMemory b asked (Ok false)
  free_nothing is = subst (λ o. TakesNoMemory b o (Ok false)) is tt
