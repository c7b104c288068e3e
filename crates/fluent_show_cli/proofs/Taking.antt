-- A text that is taken piece by piece.
use Rattle.std.proofs.Common.{◌≡◌, ◌∙◌, sym, ap, subst, false, List, [], ◌++◌, append_assoc, append-nil, Option, Result, Ok, Err, is_ok, Global}
use Rattle.std.specs.Cow.{cow_str_bytes}
use Rattle.std.specs.Result.{IfOk, OnOk, OnErr}
use Rattle.std.specs.declared.borrow.CowStr.{CowStr}
use Rattle.std.specs.Io.KnownBytes.{Appends}
use Rattle.std.proofs.KnownBytes.{Appends-trans}
use Rattle.std.proofs.lemmas.Result.{on_ok_weaker}
use Rattle.fluent_ast.specs.Tree.{Text, Pattern}
use Rattle.fluent_text.specs.Taken.{TookPrefix}
use Rattle.fluent_semantics.specs.Arguments.{Map}
use Rattle.fluent_semantics.specs.Bundle.{Bundle}
use Rattle.fluent_semantics.specs.Events.{errors_in, text_in}
use Rattle.fluent_semantics.specs.Result.{written_pattern}
use Rattle.fluent_semantics.specs.Value.{Value}
use Rattle.fluent_bundle.specs.Formatted.{EventsAreRun, WritesAll, WritesPrefix, written_events}
use Rattle.fluent_bundle_entries.specs.declared.errors.FluentError.{FluentError}
use Rattle.fluent_show_cli.specs.Program.{line}
use Rattle.fluent_show_cli.specs.Inside.OutputProgress.{Added, Took}
use Rattle.fluent_show_cli.proofs.Adding.{always, ok_alike}

-- a beginning of a text is one of more, too
pub prefix_short : (old new : Option Text) (s t : Text) → TookPrefix old new s → TookPrefix old new (s ++ t)
prefix_short old new s t h = (h.0, h.1 ++ t, ap (λ w. w ++ t) h.2 ∙ append_assoc h.0 h.1 t, h.3)

-- and a beginning after the whole of another
pub prefix_then : (old mid new : Option Text) (s t : Text) → Appends old mid s → TookPrefix mid new t → TookPrefix old new (s ++ t)
prefix_then old mid new s t whole h = (s ++ h.0, h.1, ap (λ w. s ++ w) h.2 ∙ sym (append_assoc s h.0 h.1), Appends-trans old mid new s h.0 whole h.3)

-- all of it, whatever is answered
pub took_all : {T E : Type 0} (r : Result T E) (text : Text) (old new : Option Text) → Appends old new text → Took r text old new
took_all r text old new whole = record { all = always r whole; prefix = (text, [], sym (append-nil text), whole) }

-- what one call of `put` takes
pub took_put : {T E : Type 0} (r : Result T E) (piece : Text) (old new : Option Text) → OnOk r (Appends old new piece) → OnErr r (TookPrefix old new piece) → Took r piece old new
took_put (Ok x) piece old new whole prefix = record { all = whole; prefix = (piece, [], sym (append-nil piece), whole) }
took_put (Err e) piece old new whole prefix = record { all = tt; prefix = prefix }

-- the line of a text that is given
pub given_line : {E : Type 0} (r : Result (CowStr Global) E) (text : Text) → IfOk r (λ t. cow_str_bytes t ≡ text) → IfOk r (λ t. line (cow_str_bytes t) ≡ line text)
given_line (Ok t) text is = ap line is
given_line (Err e) text is = tt

-- a text after the whole of another
pub took_then : {T E T' E' : Type 0} (r : Result T E) (r' : Result T' E') (x : T) (s t : Text) (old mid new : Option Text) → r ≡ Ok x
    → Took r s old mid → Took r' t mid new → Took r' (s ++ t) old new
took_then r r' x s t old mid new was first second =
    let whole : Appends old mid s = subst (λ w. OnOk w (Appends old mid s)) was first.all in
    record { all = on_ok_weaker r' (Appends-trans old mid new s t whole) second.all; prefix = prefix_then old mid new s t whole second.prefix }

-- a call that faulted took a beginning of more, too
pub took_short : {T E T' E' : Type 0} (r : Result T E) (r' : Result T' E') (s t : Text) (old new : Option Text) → is_ok r' ≡ false → Took r s old new → Took r' (s ++ t) old new
took_short r (Ok x) s t old new faulted h = cc
took_short r (Err e) s t old new faulted h = record { all = tt; prefix = prefix_short old new s t h.prefix }

-- The same of an answer that is Ok where this one is.
pub took_recast : {T E T' E' : Type 0} (r : Result T E) (r' : Result T' E') (s t : Text) (old new : Option Text) → is_ok r' ≡ is_ok r → s ≡ t → Took r s old new → Took r' t old new
took_recast r r' s t old new same e h = record {
  all = subst (λ w. OnOk r' (Appends old new w)) e (ok_alike (Appends old new s) r r' same h.all);
  prefix = subst (λ w. TookPrefix old new w) e h.prefix;
}

-- what a formatting call took
pub took_written : {T E : Type 0} (r : Result T E) (b : Bundle Text) (args : Map (Value Text)) (p : Pattern) → EventsAreRun b args p → {held held' : Option Text} {old new : List FluentError}
    → OnOk r (WritesAll (written_pattern b args p).value (written_pattern b args p).errors held held' old new) → WritesPrefix (written_events b args p) held held' old new → Took r (written_pattern b args p).value held held'
took_written r b args p law {held} {held'} {old} {new} whole prefix = record {
  all = on_ok_weaker r (λ (w : WritesAll (written_pattern b args p).value (written_pattern b args p).errors held held' old new). w.taken) whole;
  prefix = (text_in prefix.done, text_in prefix.rest, sym (law.prefix prefix.done prefix.rest prefix.whole).text, prefix.taken);
}

-- what it added
pub added_written : {T E : Type 0} (r : Result T E) (b : Bundle Text) (args : Map (Value Text)) (p : Pattern) → EventsAreRun b args p → {held held' : Option Text} {old new : List FluentError}
    → OnOk r (WritesAll (written_pattern b args p).value (written_pattern b args p).errors held held' old new) → WritesPrefix (written_events b args p) held held' old new → Added r (written_pattern b args p).errors old new
added_written r b args p law {held} {held'} {old} {new} whole prefix = record {
  all = on_ok_weaker r (λ (w : WritesAll (written_pattern b args p).value (written_pattern b args p).errors held held' old new). w.adds) whole;
  prefix = record {
    prefix = errors_in prefix.done;
    rest = errors_in prefix.rest;
    whole = (law.prefix prefix.done prefix.rest prefix.whole).errors;
    adds = prefix.adds;
  };
}

-- what holds in any case
pub on_err : {T E P : Type 0} (r : Result T E) → P → OnErr r P
on_err (Ok x) p = tt
on_err (Err e) p = p
