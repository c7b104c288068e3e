use Rattle.std.proofs.Common.{◌≡◌, ◌-◌, ◌+◌, ◌∙◌, ◌==◌, ap, true, false, not, [], length, Some, Ok, refl, sym, arith, rules}
use Rattle.std.specs.Str.{bytes_eq}
use Rattle.std.specs.Set.{is_member}
use Rattle.std.proofs.lemmas.Bool.Decides.{nat_tests}
use Rattle.fluent_text.specs.Parser.{first}
use Rattle.fluent_text.specs.Lexical.{blank}
use Rattle.fluent_reasons.specs.Reasons.{level, argument}
use Rattle.fluent_reasons.specs.ReasonRead.{name_view}
use Rattle.fluent_reasons.specs.Stopping.{past}
use Rattle.fluent_reasons.proofs.Names.{was_there, was_absent}
use Rattle.fluent_reasons.proofs.ArgumentTurns.{Joined, begun, repeated_name, last, next, nameless, joined}
use Rattle.fluent_reasons.proofs.inner.Inner.argument_list.Goals as goal
use Rattle.fluent_reasons.proofs.inner.Inner.argument_list.Goals.{in-Some+in_ok-insert+else-not-branch, in_default}

pub arguments-init : goal.arguments-init
arguments-init g c = record { names = []; members = λ q. search rules; some = refl; gives = begun (level c.args.self.now.depth) _ c.args.s.now (omega arith) }

pub returns-then-not-branch : goal.returns-then-not-branch
returns-then-not-branch g c =
    let l = level c.args.self.now.depth in
    let n = length c.args.s.now in
    let m = c.arguments.invariant in
    let rest = c.arguments.rest.now in
    let key = c.in-Some.name in
    let b : (first rest == 41) ≡ false = grind (arith, nat_tests) in
    let a : argument l (not (length m.names == 0)) rest ≡ Ok (Some key.now, c.in_ok-name.after.now) = rw (← m.some, c.in_ok-name.ensures, c.in-Some.is) refl in
    let seen : is_member bytes_eq m.names key.now ≡ true = sym (m.members key) ∙ was_there _ _ c.in_ok-insert.ensures.added c.if-not-branch.true in
    m.gives ∙ repeated_name l (n - c.arguments._turn) m.names rest key.now c.in_ok-name.after.now (omega arith) b a seen

pub returns-then-byte_at-ne44 : goal.returns-then-byte_at-ne44
returns-then-byte_at-ne44 g c =
    let l = level c.args.self.now.depth in
    let n = length c.args.s.now in
    let m = c.arguments.invariant in
    let rest = c.arguments.rest.now in
    let after = c.in_ok-name.after.now in
    let name = name_view c.in_ok-name.name in
    let b : (first rest == 41) ≡ false = grind (arith, nat_tests) in
    let a : argument l (not (length m.names == 0)) rest ≡ Ok (name, after) = rw (← m.some) c.in_ok-name.ensures in
    let j : Joined m.names rest name after c.match-name.names c.match-name.named =
    elim c.match-name.branch [
      | in-Some+in_ok-insert+else-not-branch w ↦
          let new : is_member bytes_eq m.names w.in-Some.name.now ≡ false = sym (m.members w.in-Some.name) ∙ was_absent _ _ w.in_ok-insert.ensures.added w.if-not-branch.false in
          rw (w.names-is, w.named-is) (joined m.names rest after name c.arguments.names _ w.in-Some.name (ap name_view w.in-Some.is) m.members new w.in_ok-insert.ensures.updates)
      | in_default w ↦ rw (w.names-is, w.named-is) (nameless m.names rest after name c.arguments.names c.arguments.named (ap name_view w.in_default.is) m.members m.some)
    ] in
    let end : past blank after ≡ c.after_blank-end.result.now = sym c.after_blank-end.ensures in
    let x : (first (past blank after) == 44) ≡ false = rw end (grind (arith, nat_tests)) in
    rw (← end) (m.gives ∙ last l (n - c.arguments._turn) m.names j.all rest after name (omega arith) b a j.read x)

pub arguments-preserved : goal.arguments-preserved
arguments-preserved g c =
    let l = level c.args.self.now.depth in
    let n = length c.args.s.now in
    let m = c.arguments.invariant in
    let rest = c.arguments.rest.now in
    let after = c.in_ok-name.after.now in
    let name = name_view c.in_ok-name.name in
    let b : (first rest == 41) ≡ false = grind (arith, nat_tests) in
    let a : argument l (not (length m.names == 0)) rest ≡ Ok (name, after) = rw (← m.some) c.in_ok-name.ensures in
    let j : Joined m.names rest name after c.match-name.names c.match-name.named =
    elim c.match-name.branch [
      | in-Some+in_ok-insert+else-not-branch w ↦
          let new : is_member bytes_eq m.names w.in-Some.name.now ≡ false = sym (m.members w.in-Some.name) ∙ was_absent _ _ w.in_ok-insert.ensures.added w.if-not-branch.false in
          rw (w.names-is, w.named-is) (joined m.names rest after name c.arguments.names _ w.in-Some.name (ap name_view w.in-Some.is) m.members new w.in_ok-insert.ensures.updates)
      | in_default w ↦ rw (w.names-is, w.named-is) (nameless m.names rest after name c.arguments.names c.arguments.named (ap name_view w.in_default.is) m.members m.some)
    ] in
    let end : past blank after ≡ c.after_blank-end.result.now = sym c.after_blank-end.ensures in
    let x : (first (past blank after) == 44) ≡ true = rw end (grind (arith, nat_tests)) in
    let step = next l (n - c.arguments._turn) (n - (c.arguments._turn + 1)) m.names j.all rest after name (omega arith) b a j.read x in
    record { names = j.all; members = j.members; some = j.some; gives = m.gives ∙ rw (c.after_blank-rest.ensures, c.over.ensures, c.after_blank-end.ensures) step }
