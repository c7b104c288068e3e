-- Nothing was put off.
use Rattle.std.proofs.Common.{◌≡◌, sym, ap, ℕ, zero, suc, ◌+◌, ◌≤◌, List, [], length, arith, Option}
use Rattle.fluent_ast.specs.Tree.{Text}
use Rattle.fluent_semantics.specs.Ahead.{Rest}
use Rattle.fluent_semantics.specs.Bundle.{Bundle}
use Rattle.fluent_semantics.specs.Value.{Value}
use Rattle.fluent_resolver_state.specs.Status.{Status}
use Rattle.fluent_values.specs.Sinks.{Sink}
use Rattle.fluent_resolver.specs.Frames.{Along, before, paid_within}
use Rattle.fluent_resolver.specs.Inside.Parts.{Following, View}
use Rattle.fluent_resolver.specs.declared.frame.Frame.{Frame}
use Rattle.fluent_resolver.proofs.Going.{turns, with_fewer}
use Rattle.fluent_resolver.proofs.Waiting.{before_none}

-- so what follows is ahead of no frames
pub none_put : {B C : Type 0} {first : Rest Text} {n m : ℕ} {w w' : Sink} {s s' : Status B} (content : C → Text) (b : Bundle Text) (fs : List (Frame C)) (k : Following) (given : Option (Value Text)) (v : View) → fs ≡ [] → Along first n (k given v) m w w' s s' → Along first n (before content b fs k given v) (m + length fs) w w' s s'
none_put {m = m} content b fs k given v is h =
    let none : length fs ≡ 0 = ap length is in
    with_fewer (m + length fs) (omega (arith, none)) (turns (ap (λ k'. k' given v) (sym (before_none content b fs k is))) h)

-- where no level is left, a frame is paid for
pub paid_none : (levels n : ℕ) → levels ≡ 0 → suc n ≤ paid_within levels n
paid_none zero n is = omega arith
paid_none (suc l) n is = absurd (omega (arith, is))

-- and never less than nothing
pub paid_least : (levels n : ℕ) → n ≤ paid_within levels n
paid_least zero n = omega arith
paid_least (suc l) n = omega arith
