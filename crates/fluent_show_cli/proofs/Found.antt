-- What comes of a value that is written by id.
use Rattle.std.proofs.Common.{◌≡◌, ◌∙◌, sym, ap, subst, refl, Bool, true, false, [], ◌∷◌, ◌++◌, Option, Some, None, Result, Ok, Err, IfOk, OnOk, is_ok, append-nil}
use Rattle.std.proofs.KnownBytes.{Appends-nil}
use Rattle.fluent_text.specs.Writer.{writer_in}
use Rattle.fluent_text.specs.declared.counting.Counting.{Counting}
use Rattle.fluent_text.specs.declared.counting.WriteFault.{WriteFault}
use Rattle.fluent_ast.specs.Tree.{Text, Pattern}
use Rattle.fluent_semantics.specs.Arguments.{Map}
use Rattle.fluent_semantics.specs.Bundle.{Bundle}
use Rattle.fluent_semantics.specs.Result.{written_pattern}
use Rattle.fluent_semantics.specs.Value.{Value}
use Rattle.fluent_bundle.specs.Formatted.{EventsAreRun, WritesAsked}
use Rattle.fluent_show_cli.specs.Program.{shown, no_message, arguments_of, only, run_value}
use Rattle.fluent_show_words.specs.Words.{Asked}
use Rattle.fluent_show_cli.specs.Inside.Comes.{Errors}
use Rattle.fluent_show_cli.specs.Inside.OutputProgress.{Added, Took, TookPart}
use Rattle.fluent_show_cli.proofs.Adding.{added_by, always, recast}
use Rattle.fluent_show_cli.proofs.Stopping.{part_written}
use Rattle.fluent_show_cli.proofs.Taking.{added_written, took_all, took_short, took_then, took_written}

module _ {W : Type 0} (asked : Asked) (bundle : Bundle Text) (args : Map (Value Text)) (same : args ≡ arguments_of asked.arguments)
    (law : (p : Pattern) → EventsAreRun bundle args p) (contents : W → Option Text) (r : Result Bool WriteFault) (out out' : Counting W) (errors errors' : Errors) where
  -- what the call says of it, if it is there
  abbrev Wrote : Option Pattern → Type 0
  Wrote value = WritesAsked bundle args value r contents out out' errors errors'

  -- ---- a fault came

  -- so there was a text to show
  pub shown_before : (e : WriteFault) → r ≡ Err e → (value : Option Pattern) → Wrote value → (run_value asked bundle value).ending ≡ shown
  shown_before e is None writes =
      let never : Err e ≡ Ok false = sym is ∙ writes.nothing.0 in
      cc
  shown_before e is (Some p) writes = refl

  module _ {T : Type 0} (r' : Result T WriteFault) (e : WriteFault) (is : r ≡ Err e) (faulted : is_ok r' ≡ false) where
    pub puts_fault : (value : Option Pattern) → Wrote value → Took r' (run_value asked bundle value).output (contents (writer_in out)) (contents (writer_in out'))
    puts_fault None writes =
        let never : Err e ≡ Ok false = sym is ∙ writes.nothing.0 in
        cc
    puts_fault (Some p) writes =
        subst (λ a. Took r' ((written_pattern bundle a p).value ++ 10 ∷ []) (contents (writer_in out)) (contents (writer_in out'))) same
        (took_short r r' _ (10 ∷ []) _ _ faulted (took_written r bundle args p (law p) writes.whole writes.prefix))

    pub adds_fault : (value : Option Pattern) → Wrote value → Added r' (run_value asked bundle value).errors errors.items errors'.items
    adds_fault None writes =
        let never : Err e ≡ Ok false = sym is ∙ writes.nothing.0 in
        cc
    adds_fault (Some p) writes =
        subst (λ a. Added r' (written_pattern bundle a p).errors errors.items errors'.items) same
        (recast r r' _ _ _ _ (faulted ∙ sym (ap is_ok is)) refl (added_written r bundle args p (law p) writes.whole writes.prefix))

    -- before the line feed
    pub part_fault : (value : Option Pattern) → Wrote value → TookPart (run_value asked bundle value).output (contents (writer_in out)) (contents (writer_in out'))
    part_fault None writes =
        let never : Err e ≡ Ok false = sym is ∙ writes.nothing.0 in
        cc
    part_fault (Some p) writes =
        subst (λ a. TookPart ((written_pattern bundle a p).value ++ 10 ∷ []) (contents (writer_in out)) (contents (writer_in out'))) same
        (part_written bundle args p (law p) writes.prefix)

  -- ---- it was written

  -- so there was a text to show
  pub was_shown : r ≡ Ok true → (value : Option Pattern) → Wrote value → (run_value asked bundle value).ending ≡ shown
  was_shown is None writes =
      let never : Ok true ≡ Ok false = sym is ∙ writes.nothing.0 in
      cc
  was_shown is (Some p) writes = refl

  module _ {T : Type 0} (r' : Result T WriteFault) (is : r ≡ Ok true) where
    -- and a line feed after it
    pub puts_line : (value : Option Pattern) → Wrote value → (new : Option Text) → Took r' (10 ∷ []) (contents (writer_in out')) new → Took r' (run_value asked bundle value).output (contents (writer_in out)) new
    puts_line None writes new feed =
        let never : Ok true ≡ Ok false = sym is ∙ writes.nothing.0 in
        cc
    puts_line (Some p) writes new feed =
        subst (λ a. Took r' ((written_pattern bundle a p).value ++ 10 ∷ []) (contents (writer_in out)) new) same
        (took_then r r' true _ (10 ∷ []) _ _ _ is (took_written r bundle args p (law p) writes.whole writes.prefix) feed)

    -- its errors were added, whatever comes of the line feed
    pub adds_line : (value : Option Pattern) → Wrote value → Added r' (run_value asked bundle value).errors errors.items errors'.items
    adds_line None writes =
        let never : Ok true ≡ Ok false = sym is ∙ writes.nothing.0 in
        cc
    adds_line (Some p) writes =
        let added = added_written r bundle args p (law p) writes.whole writes.prefix in
        subst (λ a. Added r' (written_pattern bundle a p).errors errors.items errors'.items) same
        (record { all = always r' (at_true is added.all); prefix = added.prefix })
      where
        at_true : {P : Type 0} → r ≡ Ok true → OnOk r P → P
        at_true {P} is h = subst (λ w. OnOk w P) is h

  -- ---- it isn't there

  not_there : (value : Option Pattern) → Wrote value → r ≡ Ok false → (run_value asked bundle value ≡ only (no_message asked.id)) × (out' ≡ out) × (errors' ≡ errors)
  not_there None writes is = (refl, writes.nothing.1, writes.nothing.2)
  not_there (Some p) writes is =
      let never : false ≡ true = subst (λ q. IfOk q (λ answer. answer ≡ true)) is writes.there in
      cc

  -- so the run ends without a message
  pub none_shown : r ≡ Ok false → (value : Option Pattern) → Wrote value → (run_value asked bundle value).ending ≡ no_message asked.id
  none_shown is value writes = ap (λ run. run.ending) (not_there value writes is).0

  module _ {T : Type 0} (r' : Result T WriteFault) (is : r ≡ Ok false) where
    pub puts_none : (value : Option Pattern) → Wrote value → Took r' (run_value asked bundle value).output (contents (writer_in out)) (contents (writer_in out'))
    puts_none value writes =
        let none = not_there value writes is in
        took_all r' _ _ _ (rw none.0 (rw none.1 (Appends-nil _)))

    -- and no errors were added
    pub adds_none : (value : Option Pattern) → Wrote value → Added r' (run_value asked bundle value).errors errors.items errors'.items
    adds_none value writes =
        let none = not_there value writes is in
        rw none.0 (rw none.2 (added_by r' [] errors.items errors.items (sym (append-nil _))))
