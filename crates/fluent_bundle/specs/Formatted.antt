-- What the formatting calls write, answer and report.
use Rattle.std.specs.Prelude.{◌≡◌, ◌≢◌, ◌-◌, ◌<◌, ◌≤◌, ◌↔◌, ◌++◌, Bool, false, List, [], map, Option, Some, None, is_some, IfNone, IfSome, Result, Ok, Err, IfOk, OnOk}
use Rattle.std.specs.Borrow.{Bor}
use Rattle.std.specs.Cow.{cow_str_bytes}
use Rattle.std.specs.Io.KnownBytes.{Appends}
use Rattle.std.specs.List.{flat_map}
use Rattle.std.specs.Option.{option_map}
use Rattle.std.specs.declared.alloc.AllocError.{AllocError}
use Rattle.std.specs.declared.borrow.CowStr.{CowStr}
use Rattle.std.specs.declared.borrow.CowStr.TheVariants.{Borrowed, Owned}
use Rattle.std.specs.declared.vec.Vec.{Vec}
use Rattle.std.proofs.Common.{Global}
use Rattle.fluent_text.specs.Unescaped.{Borrows}
use Rattle.fluent_text.specs.Writer.{writer_in}
use Rattle.fluent_text.specs.declared.counting.Counting.{Counting}
use Rattle.fluent_text.specs.declared.counting.WriteFault.{WriteFault}
use Rattle.fluent_text.specs.declared.counting.WriteFault.TheVariants as fault
use Rattle.fluent_ast.specs.Tree.{Text, Pattern, Attributes}
use Rattle.fluent_ast.specs.View.{pattern_view}
use Rattle.fluent_ast.specs.declared.ast.Pattern as code
use Rattle.fluent_semantics.specs.Ahead.{ahead, comes, events_of}
use Rattle.fluent_semantics.specs.Arguments.{Map}
use Rattle.fluent_semantics.specs.Bundle.{Bundle}
use Rattle.fluent_semantics.specs.Errors.{Error}
use Rattle.fluent_semantics.specs.Events.{Event, text_in, errors_in}
use Rattle.fluent_semantics.specs.Laws.{IsBounded, IsLimitOf}
use Rattle.fluent_semantics.specs.Limit.{up_to_limit}
use Rattle.fluent_semantics.specs.Meaning.{Outcome, Ran, left, limit_reached}
use Rattle.fluent_semantics.specs.Result.{formatted, written_pattern, substituted_pattern}
use Rattle.fluent_semantics.specs.Value.{Value}
use Rattle.fluent_semantics.specs.Walk.{application, whole}
use Rattle.fluent_bundle_entries.specs.declared.errors.FluentError.{FluentError}
use Rattle.fluent_bundle_entries.specs.MessageView.{Content}
use Rattle.fluent_values.specs.Sinks.{Sink, CountsTell}
use Rattle.fluent_bundle_entries.specs.Texts.{sole_text, IsTextAlone}
use Rattle.fluent_values.specs.declared.args.FluentArgs.{FluentArgs}
use Rattle.fluent_values.specs.declared.output.Halt.{Halt}
use Rattle.fluent_text.specs.Changes.{Change, new, old}
use Rattle.fluent_resolver.specs.Scoped.{IsRunOf}
use Rattle.fluent_resolver_state.specs.Status.{arguments_view, reported}
use Rattle.fluent_bundle.specs.BundleView.{formatter_in, message_at, transform_in}
use Rattle.fluent_bundle.specs.declared.bundle.FluentBundle.{FluentBundle}
use Rattle.fluent_bundle.specs.declared.messages.FormattedAttribute.{FormattedAttribute}
use Rattle.fluent_bundle.specs.declared.messages.FormattedMessage.{FormattedMessage}

-- The list of errors has these after those that stood in it.
pub record AddsAll (errors : List Error) (list list' : List FluentError) : Type 0 where
  pub added : reported list' ≡ reported list ++ errors

-- The same of a beginning of the errors.
pub record AddsPrefix (errors : List Error) (list list' : List FluentError) : Type 0 where
  pub prefix : List Error
  pub rest : List Error
  pub whole : prefix ++ rest ≡ errors
  pub adds : AddsAll prefix list list'

-- The writer took the text, and the list of errors has these after those that stood in it.
pub record WritesAll (text : Text) (errors : List Error) (held held' : Option Text) (list list' : List FluentError) : Type 0 where
  pub taken : Appends held held' text
  pub adds : AddsAll errors list list'

-- A prefix of these events happened, and nothing else: the writer took its text, and the list has its errors after those that stood in it.
pub record WritesPrefix (all : List Event) (held held' : Option Text) (list list' : List FluentError) : Type 0 where
  pub done : List Event
  pub rest : List Event
  pub whole : done ++ rest ≡ all
  pub taken : Appends held held' (text_in done)
  pub adds : AddsAll (errors_in done) list list'

-- These events happened, or a prefix of them where the answer is no Ok.
pub record Writes {T : Type 0} (result : Result T Halt) (all : List Event) (w w' : Sink) (list list' : List FluentError) : Type 0 where
  pub prefix : WritesPrefix all w.held w'.held list list'
  pub finished : OnOk result (prefix.rest ≡ [])
  pub fault : CountsTell w.failed w.empty w'.failed w'.empty result
  pub beside : w'.beside ≡ w.beside
  pub borrowed : w'.borrowed ≡ w.borrowed

-- The text is answered, and the errors are added.
pub record GivesText {E : Type 0} (all : Text) (errors : List Error) (result : Result (CowStr Global) E) (list list' : List FluentError) : Type 0 where
  pub text : IfOk result (λ t. cow_str_bytes t ≡ all)
  pub adds : OnOk result (AddsAll errors list list')

-- ---- what a formatting call does, as events

abbrev pub written_events : Bundle Text → Map (Value Text) → Pattern → List Event
written_events b args p = events_of (whole (ahead Text) b (comes b) (application args) [] p) (left b.limit)

-- These events come to a prefix of a run's text and to one of its errors, and those that are left to what is left of both.
pub record SplitsRun (ran : Ran Text) (done rest : List Event) : Type 0 where
  pub text : text_in done ++ text_in rest ≡ ran.value
  pub errors : errors_in done ++ errors_in rest ≡ ran.errors

-- These events come to what the pattern gives with the budget, and each prefix of them to a prefix of that.
pub record EventsAreRun (b : Bundle Text) (args : Map (Value Text)) (p : Pattern) : Type 0 where
  pub run : IsRunOf (written_pattern b args p) (left b.limit) (written_events b args p)
  pub prefix : (done rest : List Event) → done ++ rest ≡ written_events b args p → SplitsRun (written_pattern b args p) done rest

-- ---- what the calls say of a pattern: by what the bundle means, by what an application's values show, with arguments

abbrev pub Errors : Type 0
Errors = Vec FluentError Global

-- what the writer held before and after
abbrev pub before : {W : Type 0} → (W → Option Text) → Change (Counting W) → Option Text
before contents w = contents (writer_in (old w))

abbrev pub later : {W : Type 0} → (W → Option Text) → Change (Counting W) → Option Text
later contents w = contents (writer_in (new w))

-- these are added to the list of errors, or a beginning of them
abbrev pub Adds : List Error → Change Errors → Type 0
Adds all errors = AddsAll all (old errors).items (new errors).items

abbrev pub AddsSome : List Error → Change Errors → Type 0
AddsSome all errors = AddsPrefix all (old errors).items (new errors).items

module _ {C : Type 0} (b : Bundle Text) (content : C → Text) (args : Option (Bor (FluentArgs C))) (p : code.Pattern) where
  -- what the pattern means: with the budget, and by substitution
  abbrev pub written : Ran Text
  written = written_pattern b (arguments_view content args) (pattern_view p)

  abbrev pub substituted : Outcome Text
  substituted = substituted_pattern b (arguments_view content args) (pattern_view p)

  -- what is done, as events
  abbrev pub events : List Event
  events = written_events b (arguments_view content args) (pattern_view p)

  -- it is written: by substitution, where that opens no more placeables than the limit
  abbrev pub WritesWithin : {W T E : Type 0} → Result T E → (W → Option Text) → Change (Counting W) → Change Errors → Type 0
  WritesWithin result contents w errors =
      substituted.opened ≤ b.limit → OnOk result (WritesAll substituted.value substituted.errors (before contents w) (later contents w) (old errors).items (new errors).items)

  -- with the budget, in every case
  abbrev pub WritesWhole : {W T E : Type 0} → Result T E → (W → Option Text) → Change (Counting W) → Change Errors → Type 0
  WritesWhole result contents w errors =
      OnOk result (WritesAll written.value written.errors (before contents w) (later contents w) (old errors).items (new errors).items)

  -- whatever is answered, a prefix of its events happened
  abbrev pub WritesBeginning : {W : Type 0} → (W → Option Text) → Change (Counting W) → Change Errors → Type 0
  WritesBeginning contents w errors =
      WritesPrefix events (before contents w) (later contents w) (old errors).items (new errors).items

  -- it is answered as a text: by substitution, where that opens no more placeables than the limit
  abbrev pub GivesWithin : {E : Type 0} → Result (CowStr Global) E → Change Errors → Type 0
  GivesWithin result errors =
      substituted.opened ≤ b.limit → GivesText (formatted b substituted.value) substituted.errors result (old errors).items (new errors).items

  -- with the budget, in every case
  abbrev pub GivesWhole : {E : Type 0} → Result (CowStr Global) E → Change Errors → Type 0
  GivesWhole result errors = GivesText (formatted b written.value) written.errors result (old errors).items (new errors).items

-- ---- what its limit does to the text and the errors of a pattern

pub record KeepsLimit {C : Type 0} (b : Bundle C) (args : Map (Value C)) (p : Pattern) : Type 0 where
  -- the limit is reached exactly where the substitution meaning opens more than the limit
  pub reaches_limit : (written_pattern b args p).budget ≡ limit_reached ↔ b.limit < (substituted_pattern b args p).opened
  -- where it opens no more, text and errors are its own, and what is left is the limit less what was opened
  pub within : (substituted_pattern b args p).opened ≤ b.limit → written_pattern b args p ≡ record {
    value = (substituted_pattern b args p).value;
    errors = (substituted_pattern b args p).errors;
    budget = left (b.limit - (substituted_pattern b args p).opened);
  }
  -- where it opens more, the text at the limit and the errors before it begin both
  pub beyond : b.limit < (substituted_pattern b args p).opened → IsLimitOf (up_to_limit b (application args) [] p b.limit) (substituted_pattern b args p) (written_pattern b args p)
  -- how many placeables are opened, how long the path becomes, how many patterns are entered
  pub bounded : IsBounded b (application args) [] p b.limit

-- ---- what takes no memory

-- a pattern that is one text is borrowed, where no transform and no formatter is set
abbrev pub BorrowsText : {M C F G X : Type 0} → FluentBundle M C F G X → Pattern → Result (CowStr Global) AllocError → Type 0
BorrowsText b p result = (t : Text) → sole_text p ≡ Some t → transform_in b ≡ None → formatter_in b ≡ None → Borrows result t

-- one of texts alone, without a placeable, takes none to write, where no transform is set
abbrev pub WritesFree : {M C F G X T : Type 0} → FluentBundle M C F G X → Pattern → Result T WriteFault → Type 0
WritesFree b p result = IsTextAlone p → transform_in b ≡ None → result ≢ Err fault.Memory

-- ---- of a pattern that is asked for by id: what is given of it

-- The text is answered, and the errors are added.
pub record GivesSome {E : Type 0} (all : Text) (wrong : List Error) (result : Result (Option (CowStr Global)) E) (errors errors' : Errors) : Type 0 where
  pub text : IfOk result (λ t. option_map cow_str_bytes t ≡ Some all)
  pub adds : OnOk result (AddsAll wrong errors.items errors'.items)

-- Its text, if it is there.
pub record GivesAsked {E : Type 0} (b : Bundle Text) (args : Map (Value Text)) (asked : Option Pattern) (result : Result (Option (CowStr Global)) E) (errors errors' : Errors) : Type 0 where
  -- where it isn't, nothing is answered and nothing is added
  pub nothing : IfNone asked ((result ≡ Ok None) × (errors' ≡ errors))
  -- by substitution, where that opens no more placeables than the limit
  pub within : IfSome asked (λ p. let means = substituted_pattern b args p in means.opened ≤ b.limit → GivesSome (formatted b means.value) means.errors result errors errors')
  -- with the budget, in every case
  pub whole : IfSome asked (λ p. let means = written_pattern b args p in GivesSome (formatted b means.value) means.errors result errors errors')
  -- whatever is answered
  pub prefix : IfSome asked (λ p. AddsPrefix (written_pattern b args p).errors errors.items errors'.items)

abbrev pub GivesFound : {C E : Type 0} → Bundle Text → (C → Text) → Option (Bor (FluentArgs C)) → (Bundle Text → Option Pattern) → Result (Option (CowStr Global)) E → Change Errors → Type 0
GivesFound b content args ask result errors = GivesAsked b (arguments_view content args) (ask b) result (old errors) (new errors)

-- the answer is this text, borrowed and not made
abbrev pub BorrowsSome : Result (Option (CowStr Global)) AllocError → Text → Type 0
BorrowsSome (Ok (Some (Borrowed t))) s = t.now ≡ s
BorrowsSome (Ok (Some (Owned t))) s = ⊥
BorrowsSome (Ok None) s = ⊥
BorrowsSome (Err e) s = ⊥

-- one that is one text is borrowed, where no transform and no formatter is set
abbrev pub BorrowsAsked : {M C F G X : Type 0} → FluentBundle M C F G X → Option Pattern → Result (Option (CowStr Global)) AllocError → Type 0
BorrowsAsked b asked result = IfSome asked (λ p. (t : Text) → sole_text p ≡ Some t → transform_in b ≡ None → formatter_in b ≡ None → BorrowsSome result t)

-- ---- and what is written

-- Its text, if it is there, and whether it is.
pub record WritesAsked {W E : Type 0} (b : Bundle Text) (args : Map (Value Text)) (asked : Option Pattern) (result : Result Bool E) (contents : W → Option Text) (w w' : Counting W) (errors errors' : Errors) : Type 0 where
  pub there : IfOk result (λ answer. answer ≡ is_some asked)
  -- where it isn't, nothing is written and nothing is added
  pub nothing : IfNone asked ((result ≡ Ok false) × (w' ≡ w) × (errors' ≡ errors))
  -- by substitution, where that opens no more placeables than the limit
  pub within : IfSome asked (λ p. let means = substituted_pattern b args p in means.opened ≤ b.limit → OnOk result (WritesAll means.value means.errors (contents (writer_in w)) (contents (writer_in w')) errors.items errors'.items))
  -- with the budget, in every case
  pub whole : IfSome asked (λ p. let means = written_pattern b args p in OnOk result (WritesAll means.value means.errors (contents (writer_in w)) (contents (writer_in w')) errors.items errors'.items))
  -- whatever is answered, a prefix of its events happened
  pub prefix : IfSome asked (λ p. WritesPrefix (written_events b args p) (contents (writer_in w)) (contents (writer_in w')) errors.items errors'.items)

abbrev pub WritesFound : {C W E : Type 0} → Bundle Text → (C → Text) → Option (Bor (FluentArgs C)) → (Bundle Text → Option Pattern) → Result Bool E → (W → Option Text)
    → Change (Counting W) → Change Errors → Type 0
WritesFound b content args ask result contents w errors = WritesAsked b (arguments_view content args) (ask b) result contents (old w) (new w) (old errors) (new errors)

-- one of texts alone takes no memory, where no transform is set
abbrev pub TakesNoMemory : {M C F G X : Type 0} → FluentBundle M C F G X → Option Pattern → Result Bool WriteFault → Type 0
TakesNoMemory b asked result = IfSome asked (λ p. WritesFree b p result)

-- ---- of a message with all its parts: what the calls for its patterns give, one after the other

-- the text of the value, if there is one, and of each attribute by its name, in order
pub record MessageText : Type 0 where
  pub value : Option Text
  pub attributes : List (Text × Text)

-- what one pattern gives
abbrev pub text_of : Bundle Text → Map (Value Text) → Pattern → Text
text_of b args p = formatted b (written_pattern b args p).value

abbrev pub errors_of : Bundle Text → Map (Value Text) → Pattern → List Error
errors_of b args p = (written_pattern b args p).errors

-- what its attributes give
abbrev pub attribute_texts : Bundle Text → Map (Value Text) → Attributes → List (Text × Text)
attribute_texts b args as' = map (λ a. (a.0, text_of b args a.1)) as'

abbrev pub attribute_errors : Bundle Text → Map (Value Text) → Attributes → List Error
attribute_errors b args as' = flat_map (λ a. errors_of b args a.1) as'

-- what its value gives
abbrev pub value_text : Bundle Text → Map (Value Text) → Option Pattern → Option Text
value_text b args value = option_map (text_of b args) value

abbrev pub value_errors : Bundle Text → Map (Value Text) → Option Pattern → List Error
value_errors b args None = []
value_errors b args (Some p) = errors_of b args p

-- what a message gives
abbrev pub message_text : Bundle Text → Map (Value Text) → Content → MessageText
message_text b args m = record {
  value = value_text b args m.value;
  attributes = attribute_texts b args m.attributes;
}

abbrev pub message_errors : Bundle Text → Map (Value Text) → Option Content → List Error
message_errors b args None = []
message_errors b args (Some m) = value_errors b args m.value ++ attribute_errors b args m.attributes

-- what was answered, as text
abbrev pub attribute_shown : FormattedAttribute → Text × Text
attribute_shown a = (a.name.now, cow_str_bytes a.text)

abbrev pub message_shown : FormattedMessage → MessageText
message_shown m = record {
  value = option_map cow_str_bytes m.value;
  attributes = map attribute_shown m.attributes.items;
}

-- ---- of the message that an id names: by what the bundle means, by what an application's values show, with arguments

module _ {C : Type 0} (b : Bundle Text) (content : C → Text) (args : Option (Bor (FluentArgs C))) (id : Text) where
  -- it is shown so, if there is one
  abbrev pub ShowsMessage : Option FormattedMessage → Type 0
  ShowsMessage shown = option_map message_shown shown ≡ option_map (message_text b (arguments_view content args)) (message_at id b)

  -- what is wrong with it
  abbrev pub wrong_with : List Error
  wrong_with = message_errors b (arguments_view content args) (message_at id b)
