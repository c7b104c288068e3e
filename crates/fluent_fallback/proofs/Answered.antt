-- What comes of the chain where one of its bundles answered.
use Rattle.std.proofs.Common.{◌≡◌, ◌≢◌, ◌∙◌, sym, ap, subst, refl, ℕ, Bool, true, false, List, drop, map, Option, Some, None, Result, Ok, Err, OnOk, OnErr, IfOk, is_ok, Global}
use Rattle.std.specs.Prelude.{slice_get}
use Rattle.std.specs.Cow.{cow_str_bytes}
use Rattle.std.specs.Option.{option_map}
use Rattle.std.specs.declared.alloc.AllocError.{AllocError}
use Rattle.std.specs.declared.borrow.CowStr.{CowStr}
use Rattle.std.specs.declared.borrow.CowStr.TheVariants.{Borrowed, Owned}
use Rattle.fluent_text.specs.Unescaped.{Borrows}
use Rattle.std.specs.Io.KnownBytes.{Appends}
use Rattle.fluent_text.specs.Taken.{TookPrefix}
use Rattle.fluent_text.specs.Writer.{empty_in, failed_in, writer_in, CountsFault, Faulted}
use Rattle.fluent_text.specs.declared.counting.Counting.{Counting}
use Rattle.fluent_text.specs.declared.counting.WriteFault.{WriteFault}
use Rattle.fluent_text.specs.declared.counting.WriteFault.TheVariants.{Memory, Writer, Zero}
use Rattle.fluent_ast.specs.Tree.{Text, Pattern}
use Rattle.fluent_semantics.specs.Arguments.{Map}
use Rattle.fluent_semantics.specs.Bundle.{Bundle}
use Rattle.fluent_semantics.specs.Errors.{Error}
use Rattle.fluent_semantics.specs.Value.{Value}
use Rattle.fluent_bundle.specs.Formatted.{BorrowsAsked, BorrowsSome, GivesAsked, GivesSome, GivesText, TakesNoMemory, WritesAsked, Errors}
use Rattle.fluent_bundle.specs.declared.bundle.FluentBundle.{FluentBundle}
use Rattle.fluent_fallback.specs.Chain.{first_with, GivesOrId, BorrowsOrId, NeedsNoMemory, WritesOrId}
use Rattle.fluent_fallback.proofs.First.{adds_none, answers, prefix_alone, gives_alone, gives_of, puts_alone, writes_of}

-- ---- a text that was given

abbrev EvaluatesSilently : Type 0
EvaluatesSilently = Result (Option (CowStr Global)) AllocError

gives_text : (all : Text) (wrong : List Error) (r : EvaluatesSilently) (text : CowStr Global) (errors errors' : Errors) → r ≡ Ok (Some text)
    → GivesSome all wrong r errors errors' → GivesText {E = AllocError} all wrong (Ok text) errors.items errors'.items
gives_text all wrong r text errors errors' is gives =
    let there : GivesSome all wrong (Ok (Some text)) errors errors' = subst (λ q. GivesSome all wrong q errors errors') is gives in
    let same : Some (cow_str_bytes text) ≡ Some all = there.text in
    record { text = cc same; adds = there.adds }

given_none : (all : Text) (r : EvaluatesSilently) → r ≡ Ok None → ¬ (IfOk r (λ t. option_map cow_str_bytes t ≡ Some all))
given_none all r is h =
    let never : None ≡ Some all = subst (λ q. IfOk q (λ t. option_map cow_str_bytes t ≡ Some all)) is h in
    cc

-- a call that was refused
fails : (P : Result (CowStr Global) AllocError → Type 0) (r : Result (CowStr Global) AllocError) → is_ok r ≡ false → ((e : AllocError) → P (Err e)) → P r
fails P (Ok x) faulted h = cc
fails P (Err e) faulted h = h e

module _ {M C F G X : Type 0} (of : FluentBundle M C F G X → Bundle Text) (has : Bundle Text → Option Pattern) (args : Map (Value Text)) where
  -- of a bundle that has none: nothing was added
  pub gives_nothing : (b : FluentBundle M C F G X) (asked : Option Pattern) (r : EvaluatesSilently) (errors errors' : Errors) → r ≡ Ok None
      → GivesAsked (of b) args asked r errors errors' → (asked ≡ None) × (errors' ≡ errors)
  gives_nothing b None r errors errors' is gives = (refl, gives.nothing.1)
  gives_nothing b (Some p) r errors errors' is gives = absurd (given_none _ r is gives.whole.text)

  module _ (bs : List (FluentBundle M C F G X)) (i : ℕ) (b : FluentBundle M C F G X) (at : slice_get bs i ≡ Some b) (first : first_with (λ a. has (of a)) (drop i bs) ≡ first_with (λ a. has (of a)) bs) where
    -- of one that answered with a text
    pub gives_here : (id : Text) (asked : Option Pattern) → has (of b) ≡ asked → (r : EvaluatesSilently) (text : CowStr Global) (old errors errors' : Errors) → errors ≡ old → r ≡ Ok (Some text)
        → GivesAsked (of b) args asked r errors errors'
        → GivesOrId id args (first_with has (map of bs)) (Ok text) old errors'
    gives_here id None none r text old errors errors' same is gives =
        let never : Ok (Some text) ≡ Ok None = sym is ∙ gives.nothing.0 in
        cc
    gives_here id (Some p) some r text old errors errors' same is gives =
        subst (λ es. GivesOrId id args (first_with has (map of bs)) (Ok text) es errors') same
        (gives_of of has bs (Some (b, p)) (answers (λ a. has (of a)) bs i first b p at some) id args (Ok text) errors errors' (record {
          within = λ few. gives_text _ _ r text errors errors' is (gives.within few);
          whole = gives_text _ _ r text errors errors' is gives.whole;
          prefix = gives.prefix;
        }))

    -- of one that failed for want of memory
    pub gives_refused : (id : Text) (asked : Option Pattern) → has (of b) ≡ asked → (r : EvaluatesSilently) (e : AllocError) (r' : Result (CowStr Global) AllocError) (old errors errors' : Errors) → errors ≡ old → r ≡ Err e → is_ok r' ≡ false
        → GivesAsked (of b) args asked r errors errors'
        → GivesOrId id args (first_with has (map of bs)) r' old errors'
    gives_refused id None none r e r' old errors errors' same is faulted gives =
        let never : Err e ≡ Ok None = sym is ∙ gives.nothing.0 in
        cc
    gives_refused id (Some p) some r e r' old errors errors' same is faulted gives =
        subst (λ es. GivesOrId id args (first_with has (map of bs)) r' es errors') same
        (fails (λ q. GivesOrId id args (first_with has (map of bs)) q errors errors') r' faulted
        (λ e'. gives_of of has bs (Some (b, p)) (answers (λ a. has (of a)) bs i first b p at some) id args (Err e') errors errors' (record {
          within = λ few. record { text = tt; adds = tt };
          whole = record { text = tt; adds = tt };
          prefix = gives.prefix;
        })))

  -- where none is left, the id is given
  pub gives_id : (bs : List (FluentBundle M C F G X)) → None ≡ first_with (λ a. has (of a)) bs → (text : CowStr Global) (old errors : Errors) → errors ≡ old
      → GivesOrId (cow_str_bytes text) args (first_with has (map of bs)) (Ok text) old errors
  gives_id bs none text old errors same =
      subst (λ es. GivesOrId (cow_str_bytes text) args (first_with has (map of bs)) (Ok text) es errors) same
      (gives_of of has bs None none (cow_str_bytes text) args (Ok text) errors errors (record {
        within = λ few. gives_alone text _;
        whole = gives_alone text _;
        prefix = adds_none _;
      }))

-- ---- what is borrowed

borrows_text : (r : EvaluatesSilently) (text : CowStr Global) (t : Text) → r ≡ Ok (Some text) → BorrowsSome r t → Borrows (Ok text) t
borrows_text r (Borrowed s) t is h = subst (λ q. BorrowsSome q t) is h
borrows_text r (Owned s) t is h = absurd (subst (λ q. BorrowsSome q t) is h)

module _ {M C F G X : Type 0} (of : FluentBundle M C F G X → Bundle Text) (has : Bundle Text → Option Pattern) (args : Map (Value Text)) (bs : List (FluentBundle M C F G X)) (i : ℕ) (b : FluentBundle M C F G X) (at : slice_get bs i ≡ Some b) (first : first_with (λ a. has (of a)) (drop i bs) ≡ first_with (λ a. has (of a)) bs) where
  pub borrows_here : (id : Text) (asked : Option Pattern) → has (of b) ≡ asked → (r : EvaluatesSilently) (text : CowStr Global) (errors errors' : Errors) → r ≡ Ok (Some text)
      → GivesAsked (of b) args asked r errors errors' → BorrowsAsked b asked r
      → BorrowsOrId id (first_with (λ a. has (of a)) bs) (Ok text)
  borrows_here id None none r text errors errors' is gives borrowed =
      let never : Ok (Some text) ≡ Ok None = sym is ∙ gives.nothing.0 in
      cc
  borrows_here id (Some p) some r text errors errors' is gives borrowed =
      subst (λ f. BorrowsOrId id f (Ok text)) (answers (λ a. has (of a)) bs i first b p at some)
      (λ t sole plain bare. borrows_text r text t is (borrowed t sole plain bare))

  pub borrows_failed : (id : Text) (asked : Option Pattern) → has (of b) ≡ asked → (r : EvaluatesSilently) (e : AllocError) (r' : Result (CowStr Global) AllocError) (errors errors' : Errors) → r ≡ Err e → is_ok r' ≡ false
      → GivesAsked (of b) args asked r errors errors' → BorrowsAsked b asked r
      → BorrowsOrId id (first_with (λ a. has (of a)) bs) r'
  borrows_failed id None none r e r' errors errors' is faulted gives borrowed =
      let never : Err e ≡ Ok None = sym is ∙ gives.nothing.0 in
      cc
  borrows_failed id (Some p) some r e r' errors errors' is faulted gives borrowed =
      subst (λ f. BorrowsOrId id f r') (answers (λ a. has (of a)) bs i first b p at some)
      (λ t sole plain bare. absurd (subst (λ q. BorrowsSome q t) is (borrowed t sole plain bare)))

-- ---- a text that was written

abbrev Wrote : Type 0
Wrote = Result Bool WriteFault

done : {T E : Type 0} (P : Type 0) (r : Result T E) (x : T) → r ≡ Ok x → OnOk r P → P
done P r x is h = subst (λ q. OnOk q P) is h

module _ {M C F G X W : Type 0} (of : FluentBundle M C F G X → Bundle Text) (has : Bundle Text → Option Pattern) (args : Map (Value Text)) (contents : W → Option Text) where
  -- of a bundle that has none: nothing was written, and nothing was added
  pub writes_nothing : (b : FluentBundle M C F G X) (asked : Option Pattern) (r : Wrote) (w w' : Counting W) (errors errors' : Errors) → r ≡ Ok false
      → WritesAsked (of b) args asked r contents w w' errors errors' → (asked ≡ None) × (w' ≡ w) × (errors' ≡ errors)
  writes_nothing b None r w w' errors errors' is writes = (refl, writes.nothing.1, writes.nothing.2)
  writes_nothing b (Some p) r w w' errors errors' is writes =
      let never : false ≡ true = subst (λ q. IfOk q (λ answer. answer ≡ true)) is writes.there in
      cc

  -- what is said from where the call began
  from_start : (result : Result (Unit {0}) WriteFault) (id : Text) (found : Option (Bundle Text × Pattern)) (start w w' : Counting W) (old errors errors' : Errors) → w ≡ start → errors ≡ old
      → WritesOrId id args found result (contents (writer_in w)) (contents (writer_in w')) errors errors' → WritesOrId id args found result (contents (writer_in start)) (contents (writer_in w')) old errors'
  from_start result id found start w w' old errors errors' at same writes =
      subst (λ v. WritesOrId id args found result (contents (writer_in v)) (contents (writer_in w')) old errors') at
      (subst (λ es. WritesOrId id args found result (contents (writer_in w)) (contents (writer_in w')) es errors') same writes)

  module _ (bs : List (FluentBundle M C F G X)) (i : ℕ) (b : FluentBundle M C F G X) (at : slice_get bs i ≡ Some b) (first : first_with (λ a. has (of a)) (drop i bs) ≡ first_with (λ a. has (of a)) bs) where
    -- of one that has it
    pub writes_here : (id : Text) (asked : Option Pattern) → has (of b) ≡ asked → (r : Wrote) (u : Unit {0}) (start w w' : Counting W) (old errors errors' : Errors) → w ≡ start → errors ≡ old → r ≡ Ok true
        → WritesAsked (of b) args asked r contents w w' errors errors'
        → WritesOrId id args (first_with has (map of bs)) (Ok u) (contents (writer_in start)) (contents (writer_in w')) old errors'
    writes_here id None none r u start w w' old errors errors' begun same is writes =
        let never : Ok true ≡ Ok false = sym is ∙ writes.nothing.0 in
        cc
    writes_here id (Some p) some r u start w w' old errors errors' begun same is writes =
        from_start (Ok u) id _ start w w' old errors errors' begun same
        (writes_of of has bs (Some (b, p)) (answers (λ a. has (of a)) bs i first b p at some) id args (Ok u) _ _ errors errors' (record {
          within = λ few. done _ r true is (writes.within few);
          whole = done _ r true is writes.whole;
          prefix = writes.prefix;
        }))

    -- of one where a fault came
    pub writes_fault : (id : Text) (asked : Option Pattern) → has (of b) ≡ asked → (r : Wrote) (r' : Result (Unit {0}) WriteFault) (e : WriteFault) (start w w' : Counting W) (old errors errors' : Errors) → w ≡ start → errors ≡ old → r ≡ Err e → r' ≡ Err e
        → WritesAsked (of b) args asked r contents w w' errors errors'
        → WritesOrId id args (first_with has (map of bs)) r' (contents (writer_in start)) (contents (writer_in w')) old errors'
    writes_fault id None none r r' e start w w' old errors errors' begun same is on writes =
        let never : Err e ≡ Ok false = sym is ∙ writes.nothing.0 in
        cc
    writes_fault id (Some p) some r r' e start w w' old errors errors' begun same is on writes =
        subst (λ q. WritesOrId id args (first_with has (map of bs)) q (contents (writer_in start)) (contents (writer_in w')) old errors') (sym on)
        (from_start (Err e) id _ start w w' old errors errors' begun same
        (writes_of of has bs (Some (b, p)) (answers (λ a. has (of a)) bs i first b p at some) id args (Err e) _ _ errors errors' (record {
          within = λ few. tt;
          whole = tt;
          prefix = writes.prefix;
        })))

    -- which is no want of memory where none is needed
    pub owes_here : (asked : Option Pattern) → has (of b) ≡ asked → (r : Wrote) (r' : Result (Unit {0}) WriteFault) (e : WriteFault) (w w' : Counting W) (errors errors' : Errors) → r ≡ Err e → r' ≡ Err e
        → WritesAsked (of b) args asked r contents w w' errors errors' → TakesNoMemory b asked r
        → NeedsNoMemory (first_with (λ a. has (of a)) bs) → r' ≢ Err Memory
    owes_here None none r r' e w w' errors errors' is on writes free needs =
        let never : Err e ≡ Ok false = sym is ∙ writes.nothing.0 in
        cc
    owes_here (Some p) some r r' e w w' errors errors' is on writes free needs =
        let need = subst NeedsNoMemory (sym (answers (λ a. has (of a)) bs i first b p at some)) needs in
        λ memory. free need.0 need.1 (is ∙ ap Err (cc (sym on ∙ memory)))

  -- where none is left, the id is written
  pub writes_id : (bs : List (FluentBundle M C F G X)) → None ≡ first_with (λ a. has (of a)) bs → (id piece : Text) (r : Result (Unit {0}) WriteFault) (start w w' : Counting W) (old errors : Errors) → w ≡ start → errors ≡ old → piece ≡ id
      → OnOk r (Appends (contents (writer_in w)) (contents (writer_in w')) piece) → OnErr r (TookPrefix (contents (writer_in w)) (contents (writer_in w')) piece)
      → WritesOrId id args (first_with has (map of bs)) r (contents (writer_in start)) (contents (writer_in w')) old errors
  writes_id bs none id piece r start w w' old errors begun same is whole prefix =
      from_start r id _ start w w' old errors errors begun same
      (writes_of of has bs None none id args r _ _ errors errors (record {
        within = λ few. puts_alone r piece id _ _ _ is whole;
        whole = puts_alone r piece id _ _ _ is whole;
        prefix = prefix_alone r piece id _ _ _ is whole prefix;
      }))

-- ---- which count of the writer a fault raised

fault_as : (T U : Type 0) (failed empty failed' empty' : ℕ) (e : WriteFault) → Faulted {T = T} failed empty failed' empty' (Err e) → Faulted {T = U} failed empty failed' empty' (Err e)
fault_as T U failed empty failed' empty' (Writer k) h = h
fault_as T U failed empty failed' empty' Zero h = h
fault_as T U failed empty failed' empty' Memory h = h

module _ {T W : Type 0} (start w w' : Counting W) (r : Result T WriteFault) (begun : w ≡ start) (counts : CountsFault w w' r) where
  -- of a bundle where it came
  pub faults_on : {U : Type 0} (r' : Result U WriteFault) (e : WriteFault) → r ≡ Err e → r' ≡ Err e → CountsFault start w' r'
  faults_on {U} r' e is on =
      let there : CountsFault {T = T} w w' (Err e) = subst (CountsFault w w') is counts in
      subst (λ q. CountsFault {T = U} start w' q) (sym on)
      (subst (λ v. CountsFault {T = U} v w' (Err e)) begun (fault_as T U (failed_in w) (empty_in w) (failed_in w') (empty_in w') e there))

  -- of one that answered
  pub no_fault : {U : Type 0} (x : T) (y : U) → r ≡ Ok x → CountsFault {T = U} start w' (Ok y)
  no_fault {U} x y is = subst (λ v. CountsFault {T = U} v w' (Ok y)) begun (subst (CountsFault w w') is counts)
