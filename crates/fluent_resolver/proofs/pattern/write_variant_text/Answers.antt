use Rattle.std.proofs.Common.{◌≡◌, rules, refl, sym, ap, ◌∙◌, None, true≢false}
use Rattle.fluent_ast.specs.Tree.{nothing}
use Rattle.fluent_ast.specs.View.{pattern_view}
use Rattle.fluent_semantics.specs.Meaning.{limit_reached}
use Rattle.fluent_semantics.specs.Walk.{has_one}
use Rattle.fluent_resolver_state.specs.Facts.Happening.{happened_as}
use Rattle.fluent_resolver_state.specs.Status.{state, state_parts}
use Rattle.fluent_values.specs.Sinks.{outside}
use Rattle.fluent_resolver.specs.Frames.{Along, path_left}
use Rattle.fluent_resolver.specs.Inside.Parts as parts
use Rattle.fluent_resolver.specs.Inside.Parts.{Following}
use Rattle.fluent_resolver.proofs.Beginning.{begins_pattern}
use Rattle.fluent_resolver.proofs.Elements.{none_at_end, none_at_limit, text_first}
use Rattle.fluent_resolver.proofs.Going.{finishes, passes, starts, turns}
use Rattle.fluent_resolver.proofs.Laying.{kept_of, laid_halts, laid_ok, put, viewed}
use Rattle.fluent_resolver.proofs.Moving.{moves, path_is}
use Rattle.fluent_resolver.proofs.Opening.{At}
use Rattle.fluent_resolver.proofs.Visiting.{sole_is}
use Rattle.fluent_resolver.proofs.pattern.write_variant_text.Goals.{then-not-dirty+in_ok-put_changed, else-not-dirty}
use Rattle.fluent_resolver.proofs.pattern.write_variant_text.Goals as goal

pub returns-in_err-put_changed-clause-goes : goal.returns-in_err-put_changed-clause-goes
unfolding state_parts
returns-in_err-put_changed-clause-goes g c = λ k values n.
    let content = g.C.FluentType.content in
    let contents = g.W.Write.contents in
    let a = state g.B.Context.meant g.B.Context.is_plain g.F.FluentFunction.answer content c.args.scope.now in
    let out = c.args.out.now in
    let w = outside contents out in
    let p = pattern_view c.args.pattern.now in
    let t = c.args.value.now in
    let b = state g.B.Context.meant g.B.Context.is_plain g.F.FluentFunction.answer content c.begin-begun.new.self in
    let next : Following = λ given u. k b.bundle None (record u { path = path_left c.begin-begun.result u.path }) in
    let not_reached : (b.budget ≡ limit_reached → ⊥) = λ h. true≢false (sym (c.dirty.ensures.1 h) ∙ c.if-not-dirty.true) in
    let first = ap (λ q. parts.elements (has_one p) q b.bundle next (viewed out b values)) (sole_is p t c.requires) ∙ text_first (has_one p) b.bundle next (viewed out b values) t nothing not_reached in
    let way = starts (turns first (starts (begins_pattern n w k (kept_of out) values (has_one p) refl c.begin-begun.ensures))) in
    laid_halts c.in_err-put_changed.was (search rules) (put contents out c.put_changed.new.out b values b.bundle (λ given u. parts.elements (has_one p) nothing b.bundle next u) _ c.put_changed.ensures.took way)

pub returns-clause-goes : goal.returns-clause-goes
unfolding state_parts
returns-clause-goes g c = λ k values n.
    let content = g.C.FluentType.content in
    let contents = g.W.Write.contents in
    let a = state g.B.Context.meant g.B.Context.is_plain g.F.FluentFunction.answer content c.args.scope.now in
    let out = c.args.out.now in
    let w = outside contents out in
    let p = pattern_view c.args.pattern.now in
    let t = c.args.value.now in
    let put_on = c.begin-begun.result in
    let b = state g.B.Context.meant g.B.Context.is_plain g.F.FluentFunction.answer content c.begin-begun.new.self in
    let next : Following = λ given u. k b.bundle None (record u { path = path_left put_on u.path }) in
    let begins = starts (begins_pattern n w k (kept_of out) values (has_one p) refl c.begin-begun.ensures) in
    let last = c.if-not-dirty.out in
    let there : Along (parts.whole p a.bundle (k a.bundle) (viewed out a values)) n (next None (viewed last b values)) n w (outside contents last) a b =
    elim c.if-not-dirty.branch [
      | then-not-dirty+in_ok-put_changed r ↦
          let not_reached : (b.budget ≡ limit_reached → ⊥) = λ h. true≢false (sym (c.dirty.ensures.1 h) ∙ r.if-not-dirty.true) in
          let first = ap (λ q. parts.elements (has_one p) q b.bundle next (viewed out b values)) (sole_is p t c.requires) ∙ text_first (has_one p) b.bundle next (viewed out b values) t nothing not_reached in
          let way = starts (turns first begins) in
          let laid = put contents out r.put_changed.new.out b values b.bundle (λ given u. parts.elements (has_one p) nothing b.bundle next u) _ r.put_changed.ensures.took way in
          rw r.out-is (turns (none_at_end (has_one p) b.bundle next (viewed r.put_changed.new.out b values) nothing refl) (laid_ok r.in_ok-put_changed.was laid))
      | else-not-dirty r ↦
          rw r.out-is (turns (none_at_limit (has_one p) b.bundle next (viewed out b values) p (c.dirty.ensures.0 r.if-not-dirty.false)) begins)
    ] in
    let d = state g.B.Context.meant g.B.Context.is_plain g.F.FluentFunction.answer content c.leave.new.self in
    let e = c.leave.ensures.elsewhere in
    let at : At = λ x env path budget. k x None (record { kept = kept_of last; budget = budget; environment = env; path = path; values = values }) in
    finishes _ (λ x. k d.bundle None (viewed last d values)) refl refl
    (turns (moves b d at b.environment _ e.stays.bundle e.environment (path_is put_on c.leave.ensures) e.budget) (passes (happened_as (outside contents last) e.errors e.budget c.leave.ensures.tally e.stays) there))
