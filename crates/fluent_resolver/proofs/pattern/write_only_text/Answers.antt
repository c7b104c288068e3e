use Rattle.std.proofs.Common.{◌≡◌, refl, sym, ◌∙◌, None, true≢false}
use Rattle.fluent_semantics.specs.Meaning.{limit_reached}
use Rattle.fluent_resolver_state.specs.Status.{state, state_parts}
use Rattle.fluent_values.specs.Sinks.{outside}
use Rattle.fluent_resolver.specs.Inside.Parts.{text_alone, text_then}
use Rattle.fluent_resolver.proofs.Going.{begun, finishes, passes, starts, turns}
use Rattle.fluent_resolver.proofs.Laying.{kept_of, laid_last, put, viewed}
use Rattle.fluent_resolver.proofs.Moving.{moves}
use Rattle.fluent_resolver.proofs.Opening.{At}
use Rattle.fluent_resolver.proofs.Visiting.{happened_visit, none_visited, text_visited}
use Rattle.fluent_resolver.proofs.pattern.write_only_text.Goals as goal

pub returns-then-dirty-clause-goes : goal.returns-then-dirty-clause-goes
unfolding state_parts
returns-then-dirty-clause-goes g c = λ k values n.
    let content = g.C.FluentType.content in
    let contents = g.W.Write.contents in
    let a = state g.B.Context.meant g.B.Context.is_plain g.F.FluentFunction.answer content c.args.scope.now in
    let out = c.args.out.now in
    let w = outside contents out in
    let t = c.args.text.now in
    let d = state g.B.Context.meant g.B.Context.is_plain g.F.FluentFunction.answer content c.visit.new.self in
    let same = c.visit.ensures.elsewhere in
    let reached = sym same.budget ∙ c.dirty.ensures.0 c.if-dirty.true in
    let rest : At = λ m env path budget. k m None (record { kept = kept_of out; budget = budget; environment = env; path = path; values = values }) in
    let way = passes (happened_visit (text_alone t) w c.visit.ensures) (turns (none_visited t a.bundle (k a.bundle) (viewed out a values) reached) (begun _ n w a)) in
    finishes _ (λ x. k d.bundle None (viewed out d values)) refl (moves a d rest a.environment a.path same.stays.bundle same.environment c.visit.ensures.path same.budget) (starts way)

pub returns-clause-goes : goal.returns-clause-goes
unfolding state_parts
returns-clause-goes g c = λ k values n.
    let content = g.C.FluentType.content in
    let contents = g.W.Write.contents in
    let a = state g.B.Context.meant g.B.Context.is_plain g.F.FluentFunction.answer content c.args.scope.now in
    let out = c.args.out.now in
    let w = outside contents out in
    let t = c.args.text.now in
    let d = state g.B.Context.meant g.B.Context.is_plain g.F.FluentFunction.answer content c.visit.new.self in
    let same = c.visit.ensures.elsewhere in
    let not_reached : (a.budget ≡ limit_reached → ⊥) = λ h. true≢false (sym (c.dirty.ensures.1 (same.budget ∙ h)) ∙ c.if-dirty.false) in
    let rest : At = λ m env path budget. text_then (k m) (record { kept = kept_of out; budget = budget; environment = env; path = path; values = values }) (m.transform t) budget in
    let way = passes (happened_visit (text_alone t) w c.visit.ensures) (turns (text_visited t a.bundle (k a.bundle) (viewed out a values) not_reached) (begun _ n w a)) in
    let here = turns (moves a d rest a.environment a.path same.stays.bundle same.environment c.visit.ensures.path same.budget) (starts (starts way)) in
    laid_last _ (λ u. refl) (put contents out c.put_changed.new.out d values d.bundle (k d.bundle) (d.bundle.transform t) c.put_changed.ensures.took here)
