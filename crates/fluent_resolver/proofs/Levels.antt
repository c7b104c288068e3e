-- What is paid for where no level is left, or more are.
use Rattle.std.proofs.Common.{◌≡◌, sym, ap, subst, ℕ, zero, suc, ◌≤◌, arith, [], Option, None, Some}
use Rattle.fluent_ast.specs.Tree.{Text}
use Rattle.fluent_semantics.specs.Ahead.{Rest}
use Rattle.fluent_semantics.specs.Bundle.{Bundle}
use Rattle.fluent_resolver_state.specs.Status.{Status}
use Rattle.fluent_values.specs.Sinks.{Sink}
use Rattle.fluent_resolver.specs.Frames.{Along, IsWhole, paid_within}
use Rattle.fluent_resolver.specs.Inside.Parts.{Following}
use Rattle.fluent_resolver.specs.declared.work.Work.{Work}
use Rattle.fluent_resolver.specs.Inside.Waits.{frames_in}

-- nothing is ahead
pub no_more : Bundle Text → Following
no_more b given v = record { events = []; parts = 0; values = None }

pub at_least : (levels n : ℕ) → n ≤ paid_within levels n
at_least zero n = omega arith
at_least (suc l) n = omega arith

pub at_most : (levels n : ℕ) → paid_within levels n ≤ suc n
at_most zero n = omega arith
at_most (suc l) n = omega arith

pub none_left : (levels n : ℕ) → levels ≡ 0 → paid_within levels n ≡ suc n
none_left levels n is = ap (λ l. paid_within l n) is

-- a value was made, and nothing was put off
pub whole_if : {X C : Type 0} (o : Option X) (x : X) (work : Work C) → o ≡ Some x → IsWhole o work → (frames_in work) ≡ []
whole_if o x work is h = subst (λ o. IsWhole o work) is h

-- what was ahead, said otherwise
pub from_there : {B : Type 0} {first first' now : Rest Text} {n n' : ℕ} {w w' : Sink} {s s' : Status B} → first ≡ first' → Along first' n now n' w w' s s' → Along first n now n' w w' s s'
from_there {now = now} {n} {n'} {w} {w'} {s} {s'} is h = subst (λ r. Along r n now n' w w' s s') (sym is) h
