use Rattle.std.proofs.Common.{◌∙◌, ◌≤◌, sym, ap, subst, refl, Ok}
use Rattle.std.specs.declared.borrow.CowStr.TheVariants.{Borrowed}
use Rattle.fluent_bundle.specs.BundleView.{meant}
use Rattle.fluent_fallback.specs.Chain.{pattern_asked, bundles_of, BorrowsOrId}
use Rattle.fluent_fallback.proofs.First.{none_left, not_ok, passes, passes_end}
use Rattle.fluent_fallback.proofs.Answered.{gives_here, gives_id, gives_nothing, gives_refused, borrows_here, borrows_failed}
use Rattle.fluent_fallback.proofs.chain.Chain.format.Goals as goal
use Rattle.fluent_fallback.proofs.chain.Chain.format.Goals.{in-Some+in_ok-text+in_default-2, in_default}

pub returns-in_err-text-clause-text : goal.returns-in_err-text-clause-text
returns-in_err-text-clause-text g c =
    let of = meant g.M.MemoizerKind.category g.C.FluentType.shown g.C.FluentType.alike g.F.FluentFunction.answer g.G.FluentFormatter.formatted g.T.Transform.changed in
    let has = pattern_asked c.args.id.now c.args.attribute in
    let faulted = not_ok c.from_residual.result c.from_residual.ensures.0 in
    gives_refused of has _ (bundles_of c.args.self.now) c.loop-index.index c.in-Some.bundle.now (sym c.in-Some.ensures) c.loop-index.invariant.first
    c.args.id.now _ refl c.format_in.result _ c.from_residual.result _ _ _ c.loop-index.invariant.errors c.in_err-text.was faulted c.format_in.ensures.text

pub returns-in_err-text-clause-borrowed : goal.returns-in_err-text-clause-borrowed
returns-in_err-text-clause-borrowed g c =
    let of = meant g.M.MemoizerKind.category g.C.FluentType.shown g.C.FluentType.alike g.F.FluentFunction.answer g.G.FluentFormatter.formatted g.T.Transform.changed in
    let has = pattern_asked c.args.id.now c.args.attribute in
    let faulted = not_ok c.from_residual.result c.from_residual.ensures.0 in
    borrows_failed of has _ (bundles_of c.args.self.now) c.loop-index.index c.in-Some.bundle.now (sym c.in-Some.ensures) c.loop-index.invariant.first
    c.args.id.now _ refl c.format_in.result _ c.from_residual.result _ _ c.in_err-text.was faulted c.format_in.ensures.text c.format_in.ensures.borrowed

pub returns-in-Some-2-clause-text : goal.returns-in-Some-2-clause-text
returns-in-Some-2-clause-text g c =
    let of = meant g.M.MemoizerKind.category g.C.FluentType.shown g.C.FluentType.alike g.F.FluentFunction.answer g.G.FluentFormatter.formatted g.T.Transform.changed in
    let has = pattern_asked c.args.id.now c.args.attribute in
    gives_here of has _ (bundles_of c.args.self.now) c.loop-index.index c.in-Some.bundle.now (sym c.in-Some.ensures) c.loop-index.invariant.first
    c.args.id.now _ refl c.format_in.result c.in-Some-2.text _ _ _ c.loop-index.invariant.errors (c.in_ok-text.was ∙ ap Ok c.in-Some-2.is) c.format_in.ensures.text

pub returns-in-Some-2-clause-borrowed : goal.returns-in-Some-2-clause-borrowed
returns-in-Some-2-clause-borrowed g c =
    let of = meant g.M.MemoizerKind.category g.C.FluentType.shown g.C.FluentType.alike g.F.FluentFunction.answer g.G.FluentFormatter.formatted g.T.Transform.changed in
    let has = pattern_asked c.args.id.now c.args.attribute in
    borrows_here of has _ (bundles_of c.args.self.now) c.loop-index.index c.in-Some.bundle.now (sym c.in-Some.ensures) c.loop-index.invariant.first
    c.args.id.now _ refl c.format_in.result c.in-Some-2.text _ _ (c.in_ok-text.was ∙ ap Ok c.in-Some-2.is) c.format_in.ensures.text c.format_in.ensures.borrowed

pub loop-index-preserved : goal.loop-index-preserved
loop-index-preserved g c =
    let of = meant g.M.MemoizerKind.category g.C.FluentType.shown g.C.FluentType.alike g.F.FluentFunction.answer g.G.FluentFormatter.formatted g.T.Transform.changed in
    let has = pattern_asked c.args.id.now c.args.attribute in
    let first = c.loop-index.invariant.first in
    elim c.match-bundle_at.branch [
      | in-Some+in_ok-text+in_default-2 w ↦
          let none = gives_nothing of has _ w.in-Some.bundle.now _ w.format_in.result _ _ (w.in_ok-text.was ∙ ap Ok w.in_default-2.is) w.format_in.ensures.text in
          record {
            first = passes (λ b. has (of b)) (bundles_of c.args.self.now) c.loop-index.index first w.in-Some.bundle.now (sym w.in-Some.ensures) none.0;
            errors = w.errors-is ∙ none.1 ∙ c.loop-index.invariant.errors;
          }
      | in_default w ↦ record {
        first = passes_end (λ b. has (of b)) (bundles_of c.args.self.now) c.loop-index.index first (sym w.in_default.ensures);
        errors = w.errors-is ∙ c.loop-index.invariant.errors;
      }
    ]

pub returns-clause-text : goal.returns-clause-text
returns-clause-text g c =
    let of = meant g.M.MemoizerKind.category g.C.FluentType.shown g.C.FluentType.alike g.F.FluentFunction.answer g.G.FluentFormatter.formatted g.T.Transform.changed in
    let has = pattern_asked c.args.id.now c.args.attribute in
    gives_id of has _ (bundles_of c.args.self.now)
    (none_left (λ b. has (of b)) (bundles_of c.args.self.now) c.loop-index.index c.loop-index.invariant.first (subst (λ n. n ≤ c.loop-index.index) c.len-index-end.ensures c.loop-index-test.false))
    _ _ _ c.loop-index.invariant.errors

pub loop-index-init : goal.loop-index-init
loop-index-init g c = record { first = refl; errors = refl }

pub returns-clause-borrowed : goal.returns-clause-borrowed
returns-clause-borrowed g c =
    let of = meant g.M.MemoizerKind.category g.C.FluentType.shown g.C.FluentType.alike g.F.FluentFunction.answer g.G.FluentFormatter.formatted g.T.Transform.changed in
    let has = pattern_asked c.args.id.now c.args.attribute in
    subst (λ f. BorrowsOrId c.args.id.now f (Ok (Borrowed c.args.id)))
    (none_left (λ b. has (of b)) (bundles_of c.args.self.now) c.loop-index.index c.loop-index.invariant.first (subst (λ n. n ≤ c.loop-index.index) c.len-index-end.ensures c.loop-index-test.false))
    refl
