-- What a call leaves that was stopped.
use Rattle.std.proofs.Common.{◌≡◌, ◌≢◌, ◌∙◌, sym, ap, subst, refl, false, [], Option, Result, Ok, Err, IsErr, IsErrAnd, is_ok}
use Rattle.std.proofs.KnownBytes.{Appends-nil}
use Rattle.fluent_ast.specs.Tree.{Text}
use Rattle.fluent_text.specs.Writer.{CountsFault, Faulted, failed_in, empty_in}
use Rattle.fluent_text.specs.declared.counting.Counting.{Counting}
use Rattle.fluent_text.specs.declared.counting.WriteFault.{WriteFault}
use Rattle.fluent_text.specs.declared.counting.WriteFault.TheVariants.{Memory, Writer, Zero}
use Rattle.fluent_show_cli.specs.Inside.OutputProgress.{Took}

-- an Err is no Ok
pub not_ok : {T E : Type 0} (r : Result T E) → IsErr r → is_ok r ≡ false
not_ok (Ok x) failed = cc
not_ok (Err e) failed = refl

-- an error that `?` passes on
pub passed : {T E : Type 0} (r : Result T E) (e : E) → IsErrAnd r (λ x. x ≡ e) → r ≡ Err e
passed (Ok x) e h = absurd h
passed (Err x) e h = ap (λ y. Err y) h

-- what a call took that was stopped before it wrote
pub took_none : {T E : Type 0} (r : Result T E) (text : Text) (old : Option Text) → IsErr r → Took r text old old
took_none (Ok x) text old failed = cc
took_none (Err e) text old failed = record { all = tt; prefix = ([], text, refl, Appends-nil old) }

-- a fault that is no lack of memory is none where it is passed on
pub never_memory : {T T' : Type 0} (r : Result T WriteFault) (r' : Result T' WriteFault) (e : WriteFault) → r ≡ Err e → r' ≡ Err e → r ≢ Err Memory → r' ≢ Err Memory
never_memory r r' e was was' not refused =
    let same : e ≡ Memory = cc in
    not (was ∙ ap (λ y. Err y) same)

-- ---- what is counted

-- no fault, where the writer was left alone and an allocation failed
pub counts_none : {T W : Type 0} (r : Result T WriteFault) (w : Counting W) → r ≡ Err Memory → CountsFault w w r
counts_none r w was = subst (λ q. CountsFault w w q) (sym was) (refl, refl)

-- a fault after a call that was Ok
pub counts_then : {T T' W : Type 0} (r : Result T WriteFault) (r' : Result T' WriteFault) (x : T) (w w' w'' : Counting W) → r ≡ Ok x → CountsFault w w' r → CountsFault w' w'' r' → CountsFault w w'' r'
counts_then r r' x w w' w'' was first second =
    let stood : (failed_in w' ≡ failed_in w) × (empty_in w' ≡ empty_in w) = subst (λ q. CountsFault w w' q) was first in
    subst (λ n. Faulted n (empty_in w) (failed_in w'') (empty_in w'') r') stood.0
    (subst (λ n. Faulted (failed_in w') n (failed_in w'') (empty_in w'') r') stood.1 second)

-- a fault that is passed on
pub counts_passed : {T T' W : Type 0} (r : Result T WriteFault) (r' : Result T' WriteFault) (e : WriteFault) (w w' : Counting W) → r ≡ Err e → r' ≡ Err e → CountsFault w w' r → CountsFault w w' r'
counts_passed r r' Memory w w' was was' h = subst (λ q. CountsFault w w' q) (sym was') (subst (λ q. CountsFault w w' q) was h)
counts_passed r r' (Writer e) w w' was was' h = subst (λ q. CountsFault w w' q) (sym was') (subst (λ q. CountsFault w w' q) was h)
counts_passed r r' Zero w w' was was' h = subst (λ q. CountsFault w w' q) (sym was') (subst (λ q. CountsFault w w' q) was h)
