-- What is ahead of a run: what its last frame waits for, then what those below it do.
use Rattle.std.specs.Prelude.{◌≡◌, ◌≤◌, ℕ, zero, suc, ◌+◌, ◌*◌, List, [], ◌∷◌, ◌++◌, length, map, Bool, true, false, Option, None, Some, Result, OnOk, OnErr, IfOk, String, string_bytes, drop}
use Rattle.std.specs.Option.{option_map, unwrap_or}
use Rattle.std.specs.declared.vec.Vec.{Vec}
use Rattle.std.proofs.Common.{Global}
use Rattle.std.specs.Global.{Box}
use Rattle.fluent_ast.specs.References.{a_function, in_expression, in_inline, in_variants, references, variants_view}
use Rattle.fluent_ast.specs.Tree.{Text, Pattern, pattern_of}
use Rattle.fluent_ast.specs.View.{element_view, expression_view, inline_view, pattern_view}
use Rattle.fluent_ast.specs.declared.ast.Pattern as of_pattern
use Rattle.fluent_bundle_entries.specs.IdNumbers.{numbers, table}
use Rattle.fluent_bundle_entries.specs.declared.ids.Ids.{Ids}
use Rattle.fluent_references.specs.Cursors.{seen}
use Rattle.fluent_references.specs.Links.{IsBefore}
use Rattle.fluent_semantics.specs.Ahead.{Rest, Values}
use Rattle.fluent_semantics.specs.Arguments.{Map}
use Rattle.fluent_semantics.specs.Bundle.{Bundle, Function}
use Rattle.fluent_semantics.specs.Events.{Event, IsPrefix}
use Rattle.fluent_semantics.specs.Value.{Value, error_value, text_value}
use Rattle.fluent_semantics.specs.Walk.{has_one}
use Rattle.fluent_resolver_state.specs.FoundView.{found_view, IsLedBy}
use Rattle.fluent_resolver_state.specs.Gathered.{values_of}
use Rattle.fluent_resolver_state.specs.Happened.{Happened}
use Rattle.fluent_path.specs.Contents.{front}
use Rattle.fluent_resolver_state.specs.Status.{Status, environment_view, state}
use Rattle.fluent_resolver_state.specs.declared.state.State.{State}
use Rattle.fluent_values.specs.Sinks.{Sink, CountsTell, outside}
use Rattle.fluent_values.specs.View.{named, value_view}
use Rattle.fluent_values.specs.declared.args.FluentArgs.{FluentArgs}
use Rattle.fluent_values.specs.declared.output.Halt.{Halt}
use Rattle.fluent_values.specs.declared.output.Output.{Output}
use Rattle.fluent_values.specs.declared.types.value.FluentValue.{FluentValue}
use Rattle.fluent_text.specs.Changes.{Change}
use Rattle.fluent_resolver.specs.Inside.Held.{held, IsBeforeMore}
use Rattle.fluent_resolver.specs.Inside.Parts as parts
use Rattle.fluent_resolver.specs.Inside.Waits.{frames_in, values_in}
use Rattle.fluent_resolver.specs.Inside.Parts.{View, Following, Part, Use}
use Rattle.fluent_resolver.specs.declared.frame.Frame.{Frame}
use Rattle.fluent_resolver.specs.declared.frame.Frame.TheVariants as frames
use Rattle.fluent_resolver.specs.declared.frame.Gathering.{Gathering}
use Rattle.fluent_resolver.specs.declared.frame.Purpose.{Purpose}
use Rattle.fluent_resolver.specs.declared.frame.Purpose.TheVariants as purposes
use Rattle.fluent_resolver.specs.declared.work.Work.{Work}

-- the elements of a pattern from this one on, by content
abbrev pub elements_from : ℕ → of_pattern.Pattern → Pattern
elements_from n p = pattern_of (map element_view (drop n (of_pattern.out-Pattern p).elements.items))

abbrev pub use_of : Purpose → Use
use_of (purposes.Show x id c) = parts.shows (inline_view x.now) id.now.name.now
use_of (purposes.Give id c) = parts.gives id.now.name.now
use_of (purposes.Local x id found) = parts.in_term (inline_view x.now) id.now.name.now (found_view found)
use_of purposes.Hand = parts.hands

-- what was kept before a value was
abbrev pub kept_before : Bool → String Global → Option Text
kept_before true t = Some (string_bytes t)
kept_before false t = None

-- the path after a pattern that was put on it, or wasn't
abbrev pub path_left : Bool → List Pattern → List Pattern
path_left true path = front path
path_left false path = path

-- the value of a selector, where one was made
abbrev pub selector_value : Option (Value Text) → Value Text
selector_value o = unwrap_or o error_value

abbrev pub kept_text : Option Text → Text
kept_text o = unwrap_or o []

-- a call whose arguments are gathered, by the value of the next, if there is one
abbrev pub gathers : {C : Type 0} → (C → Text) → Gathering C → Option (Value Text) → Part
gathers content g = parts.taken (use_of g.purpose) (held content g)

-- a frame, by the value that was made above it, if one was
abbrev pub frame : {C : Type 0} → (C → Text) → Frame C → Option (Value Text) → Part
frame content (frames.Elements p next c) given = parts.elements (has_one (pattern_view p.now)) (elements_from next p.now)
frame content (frames.Close e marked) given = parts.closing (expression_view e.now) marked
frame content (frames.Leave put) given = λ b k v. k None (record v { path = path_left put v.path })
frame content (frames.Outer env) given = λ b k v. k None (record v { environment = environment_view content env })
frame content (frames.Choose vs c) given = parts.matched (variants_view vs.now.items) (selector_value given)
frame content (frames.Gather g) given = gathers content g.value given
frame content (frames.Value t kept) given = λ b k v. k (Some (text_value (kept_text v.kept))) (record v { kept = kept_before kept t })
frame content (frames.Express e c) given = parts.expression (expression_view e.now)
frame content (frames.Resolve x c) given = parts.resolved (inline_view x.now)

-- frames, from the lowest up, where this follows the lowest
abbrev pub onto : {C : Type 0} → (C → Text) → Bundle Text → List (Frame C) → Following → Following
onto content b [] k = k
onto content b (f ∷ fs) k = onto content b fs (λ given. frame content f given b k)

-- frames, from the innermost out, where this follows the outermost
abbrev pub before : {C : Type 0} → (C → Text) → Bundle Text → List (Frame C) → Following → Following
before content b [] k = k
before content b (f ∷ fs) k = λ given. frame content f given b (before content b fs k)

-- nothing follows
abbrev pub at_end : Following
at_end given v = record { events = []; parts = 0; values = v.values }

-- ---- cursors

-- What the arguments are for stands where its links are.
abbrev pub IsPlacedPurpose : (Text → Option ℕ) → List Pattern → Purpose → Type 0
IsPlacedPurpose number table (purposes.Show x id c) = IsBefore number (a_function id.now.name.now ∷ []) (seen c)
IsPlacedPurpose number table (purposes.Give id c) = IsBefore number (a_function id.now.name.now ∷ []) (seen c)
IsPlacedPurpose number table (purposes.Local x id found) = IsLedBy number table found
IsPlacedPurpose number table purposes.Hand = Unit {0}

-- the cursor of a call stands before the arguments that are left
abbrev pub IsPlacedCall : {C : Type 0} → (Text → Option ℕ) → List Pattern → Gathering C → Type 0
IsPlacedCall number table g = IsBeforeMore number g × IsPlacedPurpose number table g.purpose

-- that of a frame before what its part refers to
abbrev pub IsPlacedFrame : {C : Type 0} → (Text → Option ℕ) → List Pattern → Frame C → Type 0
IsPlacedFrame number table (frames.Elements p next c) = IsBefore number (references (elements_from next p.now)) (seen c)
IsPlacedFrame number table (frames.Close e marked) = Unit {0}
IsPlacedFrame number table (frames.Leave put) = Unit {0}
IsPlacedFrame number table (frames.Outer env) = Unit {0}
IsPlacedFrame number table (frames.Choose vs c) = IsBefore number (in_variants (variants_view vs.now.items)) (seen c)
IsPlacedFrame number table (frames.Gather g) = IsPlacedCall number table g.value
IsPlacedFrame number table (frames.Value t kept) = Unit {0}
IsPlacedFrame number table (frames.Express e c) = IsBefore number (in_expression (expression_view e.now)) (seen c)
IsPlacedFrame number table (frames.Resolve x c) = IsBefore number (in_inline (inline_view x.now)) (seen c)

-- each frame is placed
abbrev pub ArePlacedFrames : {C : Type 0} → (Text → Option ℕ) → List Pattern → List (Frame C) → Type 0
ArePlacedFrames number table [] = Unit {0}
ArePlacedFrames number table (f ∷ fs) = IsPlacedFrame number table f × ArePlacedFrames number table fs

-- all of a run are, in a bundle of these ids
abbrev pub AreReady : {C F : Type 0} → Ids F → Work C → Type 0
AreReady ids work = ArePlacedFrames (numbers ids) (table ids) (frames_in work)

-- ---- how far a call went

-- From what was ahead, where so many frames waited, these events happened, and this is ahead.
pub record Along {B : Type 0} (before : Rest Text) (n : ℕ) (now : Rest Text) (n' : ℕ) (w w' : Sink) (s s' : Status B) : Type 0 where
  pub done : List Event
  pub happened : Happened done w w' s s'
  pub events : done ++ now.events ≡ before.events
  pub values : now.values ≡ before.values
  pub fewer : 4 * now.parts + n' ≤ 4 * before.parts + n
  pub still : (w'.failed ≡ w.failed) × (w'.empty ≡ w.empty)

-- A prefix of what was ahead happened.
pub record Stopped {B : Type 0} (before : Rest Text) (w w' : Sink) (s s' : Status B) : Type 0 where
  pub done : List Event
  pub happened : Happened done w w' s s'
  pub prefix : IsPrefix done before.events

-- Where the answer is Ok, this is ahead; else a prefix happened.
pub record Went {T B : Type 0} (result : Result T Halt) (before : Rest Text) (n : ℕ) (after : T → Rest Text) (n' : ℕ) (w w' : Sink) (s s' : Status B) : Type 0 where
  pub ok : IfOk result (λ x. Along before n (after x) n' w w' s s')
  pub err : OnErr result (Stopped before w w' s s')
  pub fault : CountsTell w.failed w.empty w'.failed w'.empty result

-- Where the answer is Ok, all of what was ahead happened, and the values are those at its end; else a prefix of it.
pub record RanToEnd {T B : Type 0} (result : Result T Halt) (before : Rest Text) (values : Values Text) (w w' : Sink) (s s' : Status B) : Type 0 where
  pub done : List Event
  pub happened : Happened done w w' s s'
  pub prefix : IsPrefix done before.events
  pub whole : OnOk result (done ≡ before.events)
  pub ends : OnOk result (values ≡ before.values)
  pub fault : CountsTell w.failed w.empty w'.failed w'.empty result

-- Of what is ahead a prefix happened; where the answer is Ok, all of it, and these are the values at its end.
pub record Tried {T B : Type 0} (result : Result T Halt) (before : Rest Text) (see : T → Values Text) (w w' : Sink) (s s' : Status B) : Type 0 where
  pub done : List Event
  pub happened : Happened done w w' s s'
  pub prefix : IsPrefix done before.events
  pub whole : OnOk result (done ≡ before.events)
  pub values : IfOk result (λ x. see x ≡ before.values)
  pub fault : CountsTell w.failed w.empty w'.failed w'.empty result

-- a call that writes, from a state
abbrev pub Tries : {T B S W : Type 0} → (Status B → List Event) → Result T Halt → (W → Option Text) → Change (Output W) → (S → Status B) → Change S → Type 0
Tries events result contents out at s =
    Tried result (record { events = events (at s.entry.now); parts = 0; values = None }) (λ x. None) (outside contents out.entry.now) (outside contents out.exit.now) (at s.entry.now) (at s.exit.now)

-- a call that gives values
abbrev pub Yields : {T B S W : Type 0} → (Status B → Rest Text) → Result T Halt → (T → List (Value Text) × Map (Value Text)) → (W → Option Text) → Change (Output W) → (S → Status B) → Change S → Type 0
Yields rest result see contents out at s =
    Tried result (rest (at s.entry.now)) (λ x. Some (see x)) (outside contents out.entry.now) (outside contents out.exit.now) (at s.entry.now) (at s.exit.now)

-- the values of arguments, by content
abbrev pub values_view : {C : Type 0} → (C → Text) → Option (Vec (FluentValue C) Global × FluentArgs C) → Values Text
values_view content o = option_map (λ v. (values_of content v.0, named content v.1)) o

-- What is put off, since no level is left, becomes a frame, which is paid for.
abbrev pub paid_within : ℕ → ℕ → ℕ
paid_within zero n = suc n
paid_within (suc levels) n = n

module _ {C F B W : Type 0} (meant : B → Bundle Text) (is_plain : B → Bool) (answer : F → Function Text) (content : C → Text) (contents : W → Option Text) where
  abbrev pub status_of : State C F B → Status B
  status_of s = state meant is_plain answer content s

  abbrev pub view_of : State C F B → Output W → Values Text → View
  view_of s out values =
      record {
        kept = kept_before out.is_kept out.kept.now;
        budget = (status_of s).budget;
        environment = (status_of s).environment;
        path = (status_of s).path;
        values = values;
      }

  abbrev pub view : State C F B → Output W → Work C → View
  view s out work = view_of s out (values_view content (values_in work))

  -- Of a part, whatever follows it, some was done, or all: then this value was made, or none, and these frames are ahead of what follows. So many frames are paid for.
  abbrev pub GoesFrom : {T : Type 0} → (ℕ → ℕ) → Result T Halt → Part → (T → Option (Value Text)) → Change (State C F B) → Change (Output W) → Change (Work C) → Type 0
  GoesFrom paid result part given s out work =
      (k : Bundle Text → Following) (n : ℕ) →
      Went result (part (status_of s.entry.now).bundle (k (status_of s.entry.now).bundle) (view s.entry.now out.entry.now work.entry.now)) (paid n)
      (λ x. before content (status_of s.exit.now).bundle (frames_in work.exit.now) (k (status_of s.exit.now).bundle) (given x) (view s.exit.now out.exit.now work.exit.now)) (n + length (frames_in work.exit.now))
      (outside contents out.entry.now) (outside contents out.exit.now) (status_of s.entry.now) (status_of s.exit.now)

  abbrev pub Goes : {T : Type 0} → Result T Halt → Part → (T → Option (Value Text)) → Change (State C F B) → Change (Output W) → Change (Work C) → Type 0
  Goes result part given s out work = GoesFrom (λ n. n) result part given s out work

  -- The same of what is put off where no level is left.
  abbrev pub GoesWithin : {T : Type 0} → ℕ → Result T Halt → Part → (T → Option (Value Text)) → Change (State C F B) → Change (Output W) → Change (Work C) → Type 0
  GoesWithin levels result part given s out work = GoesFrom (paid_within levels) result part given s out work

  -- Of a part that puts no frames on some was done, or all, whatever follows it.
  abbrev pub Passes : {T : Type 0} → Result T Halt → Part → Change (State C F B) → Change (Output W) → Type 0
  Passes result part s out =
      (k : Bundle Text → Following) (values : Values Text) (n : ℕ) →
      Went result (part (status_of s.entry.now).bundle (k (status_of s.entry.now).bundle) (view_of s.entry.now out.entry.now values)) n
      (λ x. k (status_of s.exit.now).bundle None (view_of s.exit.now out.exit.now values)) n
      (outside contents out.entry.now) (outside contents out.exit.now) (status_of s.entry.now) (status_of s.exit.now)

  -- what was put off was done to its end, and what waited for it
  abbrev pub Runs : {T : Type 0} → Result T Halt → Change (State C F B) → Change (Output W) → Change (Work C) → Type 0
  Runs result s out work =
      RanToEnd result (before content (status_of s.entry.now).bundle (frames_in work.entry.now) at_end None (view s.entry.now out.entry.now work.entry.now)) (values_view content (values_in work.exit.now))
      (outside contents out.entry.now) (outside contents out.exit.now) (status_of s.entry.now) (status_of s.exit.now)

-- a value that was made, by content
abbrev pub made : {C : Type 0} → (C → Text) → Option (FluentValue C) → Option (Value Text)
made content o = option_map (value_view content) o

-- a value is made of arguments only where a function gives one
abbrev pub IsGivenBy : {C : Type 0} → Purpose → Option (FluentValue C) → Type 0
IsGivenBy (purposes.Show x id c) given = given ≡ None
IsGivenBy (purposes.Give id c) given = Unit {0}
IsGivenBy (purposes.Local x id found) given = given ≡ None
IsGivenBy purposes.Hand given = given ≡ None

-- a value is made only where nothing was put off
abbrev pub IsWhole : {X C : Type 0} → Option X → Work C → Type 0
IsWhole None work = Unit {0}
IsWhole (Some x) work = frames_in work ≡ []
