use Rattle.std.proofs.Common.{rules, sym, ap, subst, ◌∙◌, Some, None}
use Rattle.fluent_bundle_entries.specs.IdNumbers.{numbers, table}
use Rattle.fluent_resolver_state.specs.Status.{state, state_parts}
use Rattle.fluent_values.specs.Sinks.{outside}
use Rattle.fluent_values.specs.View.{value_view}
use Rattle.fluent_resolver.specs.Frames.{Along, IsPlacedCall, IsPlacedPurpose, gathers, made, values_view}
use Rattle.fluent_resolver.specs.Inside.Waits.{values_in}
use Rattle.fluent_resolver.proofs.Gathers.{gets_value}
use Rattle.fluent_resolver.proofs.Going.{begun, lacks, turns, went_on}
use Rattle.fluent_resolver.proofs.Laying.{viewed}
use Rattle.fluent_resolver.proofs.arguments.go_on.Goals.{in-Some+in_ok-take, in_default}
use Rattle.fluent_resolver.proofs.arguments.go_on.Goals as goal

pub returns-in_err-take-clause-goes : goal.returns-in_err-take-clause-goes
unfolding state_parts
returns-in_err-take-clause-goes g c = λ k n.
    let a = state g.B.Context.meant g.B.Context.is_plain g.F.FluentFunction.answer g.C.FluentType.content c.args.scope.now in
    lacks (search rules) (begun _ n (outside g.W.Write.contents c.args.out.now) a)

pub gather-requires-clause-placed : goal.gather-requires-clause-placed
unfolding state_parts
gather-requires-clause-placed g c =
    let ids = c.args.scope.now.ids.now in
    elim c.match-given.branch [
      | in-Some+in_ok-take w ↦
          let old = subst (IsPlacedCall (numbers ids) (table ids)) (sym c.into_inner-gathering.ensures) c.requires.placed in
          subst (IsPlacedCall (numbers ids) (table ids)) (sym w.gathering-is) (w.in_ok-take.ensures.placed (numbers ids) old.0, subst (IsPlacedPurpose (numbers ids) (table ids)) (sym w.take.ensures.purpose) old.1)
      | in_default w ↦ subst (IsPlacedCall (numbers ids) (table ids)) (sym (w.gathering-is ∙ c.into_inner-gathering.ensures)) c.requires.placed
    ]

pub returns-clause-goes : goal.returns-clause-goes
unfolding state_parts
returns-clause-goes g c = λ k n.
    let content = g.C.FluentType.content in
    let contents = g.W.Write.contents in
    let a = state g.B.Context.meant g.B.Context.is_plain g.F.FluentFunction.answer content c.args.scope.now in
    let out = c.args.out.now in
    let work = c.args.work.now in
    let v = viewed out a (values_view content (values_in work)) in
    let call = c.args.gathering.value in
    let first = gathers content call (made content c.args.given) a.bundle (k a.bundle) v in
    let way = begun first n (outside contents out) a in
    let on : Along first n (gathers content c.match-given.gathering None a.bundle (k a.bundle) v) n (outside contents out) (outside contents out) a a =
    elim c.match-given.branch [
      | in-Some+in_ok-take w ↦
          let here =
          ap (λ o. gathers content call (made content o) a.bundle (k a.bundle) v) w.in-Some.is
          ∙ ap (λ g. gathers content g (Some (value_view content w.in-Some.value)) a.bundle (k a.bundle) v) (sym c.into_inner-gathering.ensures) in
          let next = gets_value content c.into_inner-gathering.result w.take.new.gathering (value_view content w.in-Some.value) a.bundle (k a.bundle) v w.take.ensures.purpose w.in_ok-take.ensures.held (turns here way) in
          turns (ap (λ g. gathers content g None a.bundle (k a.bundle) v) (sym w.gathering-is)) next
      | in_default w ↦
          turns (ap (λ o. gathers content call (made content o) a.bundle (k a.bundle) v) w.in_default.is ∙ ap (λ g. gathers content g None a.bundle (k a.bundle) v) (sym (w.gathering-is ∙ c.into_inner-gathering.ensures))) way
    ] in
    went_on on (c.gather.ensures.goes k n)
