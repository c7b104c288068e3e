-- Texts that are written one after the other.
use Rattle.std.proofs.Common.{◌≡◌, refl, sym, ap, subst, ◌∙◌, ℕ, [], ◌++◌, append-nil, append_assoc, Option, Some, None, Result, Ok, Err, OnOk, OnErr}
use Rattle.std.specs.Io.KnownBytes.{Appends}
use Rattle.fluent_ast.specs.Tree.{Text}
use Rattle.fluent_text.specs.Taken.{TookPrefix}
use Rattle.fluent_text.specs.Writer.{Faulted}
use Rattle.fluent_text.specs.declared.counting.WriteFault.{WriteFault}
use Rattle.fluent_text.specs.declared.counting.WriteFault.TheVariants as fault
use Rattle.fluent_values.specs.declared.output.Halt.{Halt}
use Rattle.fluent_values.specs.declared.output.Halt.TheVariants.{Memory}
use Rattle.fluent_values.specs.Sinks.{Sink, SinkTook, CountsTell, without_error}

-- known bytes that grow twice grow by both
pub appends_on : (o p q : Option Text) (xs ys : Text) → Appends o p xs → Appends p q ys → Appends o q (xs ++ ys)
appends_on None p q xs ys a b = tt
appends_on (Some o) None q xs ys a b = absurd a
appends_on (Some o) (Some p) None xs ys a b = absurd b
appends_on (Some o) (Some p) (Some q) xs ys a b = b ∙ ap (λ w. w ++ ys) a ∙ append_assoc o xs ys

-- counts that stood still and then moved as an answer says moved as it says
pub faulted_on : {S T : Type 0} (f e f' e' f'' e'' : ℕ) (x : S) (r : Result T Halt) → CountsTell f e f' e' (Ok x) → CountsTell f' e' f'' e'' r → CountsTell f e f'' e'' r
faulted_on f e f' e' f'' e'' x r h k = subst (λ n. CountsTell n e f'' e'' r) h.0 (subst (λ n. CountsTell f' n f'' e'' r) h.1 k)

pub appends_none : (o : Option Text) → Appends o o []
appends_none None = tt
appends_none (Some o) = sym (append-nil o)

pub at_ok : {A E P : Type 0} {r : Result A E} {x : A} → r ≡ Ok x → OnOk r P → P
at_ok {P = P} h k = subst (λ r. OnOk r P) h k

pub at_err : {A E P : Type 0} {r : Result A E} {e : E} → r ≡ Err e → OnErr r P → P
at_err {P = P} h k = subst (λ r. OnErr r P) h k

pub never : {A E : Type 0} (P : Type 0) {r : Result A E} {e : E} → r ≡ Err e → OnOk r P
never P h = subst (λ r. OnOk r P) (sym h) tt

-- the same text, said otherwise
pub took_same : {T : Type 0} {r : Result T Halt} {t t' : Text} {w w' : Sink} → t ≡ t' → SinkTook r t w w' → SinkTook r t' w w'
took_same h k = record { taken = k.taken; left = k.left; held = k.held; begins = k.begins ∙ h; done = k.done; fault = k.fault; beside = k.beside; borrowed = k.borrowed }

-- one text, and then another
pub took_on : {T : Type 0} {q r : Result T Halt} {x : T} {t t' : Text} {w w1 w2 : Sink} → q ≡ Ok x → SinkTook q t w w1 → SinkTook r t' w1 w2 → SinkTook r (t ++ t') w w2
took_on {q = q} {r = r} {x = x} {t = t} {t' = t'} {w = w} {w1 = w1} {w2 = w2} is h k =
    let whole : h.taken ≡ t = sym (append-nil h.taken) ∙ ap (λ l. h.taken ++ l) (sym (at_ok is h.done)) ∙ h.begins in
    record {
      taken = t ++ k.taken;
      left = k.left;
      held = appends_on w.held w1.held w2.held t k.taken (subst (Appends w.held w1.held) whole h.held) k.held;
      begins = append_assoc t k.taken k.left ∙ ap (λ x. t ++ x) k.begins;
      done = k.done;
      fault = faulted_on w.failed w.empty w1.failed w1.empty w2.failed w2.empty x r (subst (CountsTell w.failed w.empty w1.failed w1.empty) is h.fault) k.fault;
      beside = k.beside ∙ h.beside;
      borrowed = k.borrowed ∙ h.borrowed;
    }

-- a fault, and nothing more of what was to come
pub took_stops : {T : Type 0} {r r' : Result T Halt} {e : Halt} {t : Text} {w w' : Sink} (t' : Text) → r ≡ Err e → r' ≡ Err e → SinkTook r t w w' → SinkTook r' (t ++ t') w w'
took_stops {r = r} {r' = r'} {w = w} {w' = w'} t' was is h =
    let same : r ≡ r' = was ∙ sym is in
    record {
      taken = h.taken;
      left = h.left ++ t';
      held = h.held;
      begins = sym (append_assoc h.taken h.left t') ∙ ap (λ x. x ++ t') h.begins;
      done = never _ is;
      fault = subst (CountsTell w.failed w.empty w'.failed w'.empty) same h.fault;
      beside = h.beside;
      borrowed = h.borrowed;
    }

-- the last of the texts met a fault
pub took_fails : {T : Type 0} {r r' : Result T Halt} {e : Halt} {t : Text} {w w' : Sink} → r ≡ Err e → r' ≡ Err e → SinkTook r t w w' → SinkTook r' t w w'
took_fails {t = t} {w = w} {w' = w'} was is h = subst (λ r. SinkTook r t w w') (was ∙ sym is) h

-- the last of the texts was taken
pub took_done : {T : Type 0} {r : Result T Halt} {x : T} {t : Text} {w w' : Sink} → r ≡ Ok x → SinkTook r t w w' → SinkTook (Ok x) t w w'
took_done {t = t} {w = w} {w' = w'} is h = subst (λ r. SinkTook r t w w') is h

-- the counts tell as much of an answer without the writer's own error
pub counts_tell : {T : Type 0} (f e f' e' : ℕ) (r : Result T WriteFault) → Faulted f e f' e' r → CountsTell f e f' e' (without_error r)
counts_tell f e f' e' (Ok x) h = h
counts_tell f e f' e' (Err (fault.Writer x)) h = h
counts_tell f e f' e' (Err fault.Zero) h = h
counts_tell f e f' e' (Err fault.Memory) h = h

-- and no more
pub counts_told : {T : Type 0} (f e f' e' : ℕ) (r : Result T WriteFault) → CountsTell f e f' e' (without_error r) → Faulted f e f' e' r
counts_told f e f' e' (Ok x) h = h
counts_told f e f' e' (Err (fault.Writer x)) h = h
counts_told f e f' e' (Err fault.Zero) h = h
counts_told f e f' e' (Err fault.Memory) h = h

-- want of memory is no other fault
pub stays_memory : {T : Type 0} (r : Result T WriteFault) → without_error r ≡ Err Memory → r ≡ Err fault.Memory
stays_memory (Ok x) h = cc
stays_memory (Err (fault.Writer e)) h = cc
stays_memory (Err fault.Zero) h = cc
stays_memory (Err fault.Memory) h = refl

-- what a call of another crate took
pub took_by : (r : Result (Unit {0}) WriteFault) (t : Text) (w w' : Sink) → OnOk r (Appends w.held w'.held t) → OnErr r (TookPrefix w.held w'.held t) → Faulted w.failed w.empty w'.failed w'.empty r → w'.beside ≡ w.beside → w'.borrowed ≡ w.borrowed → SinkTook (without_error r) t w w'
took_by (Ok x) t w w' whole prefix fault beside borrowed = record { taken = t; left = []; held = whole; begins = append-nil t; done = refl; fault = fault; beside = beside; borrowed = borrowed }
took_by (Err e) t w w' whole prefix fault beside borrowed = record { taken = prefix.0; left = prefix.1; held = prefix.3; begins = sym prefix.2; done = tt; fault = counts_tell {T = Unit {0}} w.failed w.empty w'.failed w'.empty (Err e) fault; beside = beside; borrowed = borrowed }

-- the same answer, said otherwise
pub took_as : {T : Type 0} {r r' : Result T Halt} {t : Text} {w w' : Sink} → r ≡ r' → SinkTook r t w w' → SinkTook r' t w w'
took_as {t = t} {w = w} {w' = w'} is h = subst (λ r. SinkTook r t w w') is h

-- a text that a buffer took
pub took_whole : {T : Type 0} {x : T} (t : Text) (w w' : Sink) → Appends w.held w'.held t → CountsTell w.failed w.empty w'.failed w'.empty (Ok x) → w'.beside ≡ w.beside → w'.borrowed ≡ w.borrowed → SinkTook (Ok x) t w w'
took_whole t w w' held fault beside borrowed = record { taken = t; left = []; held = held; begins = append-nil t; done = refl; fault = fault; beside = beside; borrowed = borrowed }

-- nothing was taken, for want of memory
pub took_none : {T : Type 0} {r : Result T Halt} (t : Text) (w : Sink) → r ≡ Err Memory → SinkTook r t w w
took_none t w is = record { taken = []; left = t; held = appends_none w.held; begins = refl; done = never _ is; fault = subst (CountsTell w.failed w.empty w.failed w.empty) (sym is) (refl, refl); beside = refl; borrowed = refl }
