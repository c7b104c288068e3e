use Rattle.std.proofs.Common.{◌∙◌, ◌≤◌, ap, subst, sym, refl, Ok}
use Rattle.fluent_text.specs.Writer.{CountsFault}
use Rattle.fluent_bundle.specs.BundleView.{meant}
use Rattle.fluent_fallback.specs.Chain.{pattern_asked, bundles_of}
use Rattle.fluent_fallback.proofs.First.{never_both, none_left, passed_on, passes, passes_end}
use Rattle.fluent_fallback.proofs.Answered.{faults_on, no_fault, owes_here, writes_fault, writes_here, writes_id, writes_nothing}
use Rattle.fluent_fallback.proofs.chain.Chain.write.Goals as goal
use Rattle.fluent_fallback.proofs.chain.Chain.write.Goals.{in-Some+in_ok-write_in+else-branch, in_default}

pub returns-in_err-write_in-clause-text : goal.returns-in_err-write_in-clause-text
returns-in_err-write_in-clause-text g c =
    let of = meant g.M.MemoizerKind.category g.C.FluentType.shown g.C.FluentType.alike g.F.FluentFunction.answer g.G.FluentFormatter.formatted g.T.Transform.changed in
    let has = pattern_asked c.args.id.now c.args.attribute in
    writes_fault of has _ _ (bundles_of c.args.self.now) c.loop-index.index c.in-Some.bundle.now (sym c.in-Some.ensures) c.loop-index.invariant.first
    c.args.id.now _ refl c.write_in.result c.from_residual.result c.in_err-write_in.field-0.0 _ _ _ _ _ _ c.loop-index.invariant.writer c.loop-index.invariant.errors c.in_err-write_in.was (passed_on c.from_residual.result c.in_err-write_in.field-0.0 c.from_residual.ensures.1) c.write_in.ensures.text

pub returns-in_err-write_in-clause-memory : goal.returns-in_err-write_in-clause-memory
returns-in_err-write_in-clause-memory g c =
    let of = meant g.M.MemoizerKind.category g.C.FluentType.shown g.C.FluentType.alike g.F.FluentFunction.answer g.G.FluentFormatter.formatted g.T.Transform.changed in
    let has = pattern_asked c.args.id.now c.args.attribute in
    owes_here of has _ _ (bundles_of c.args.self.now) c.loop-index.index c.in-Some.bundle.now (sym c.in-Some.ensures) c.loop-index.invariant.first
    _ refl c.write_in.result c.from_residual.result c.in_err-write_in.field-0.0 _ _ _ _ c.in_err-write_in.was (passed_on c.from_residual.result c.in_err-write_in.field-0.0 c.from_residual.ensures.1) c.write_in.ensures.text c.write_in.ensures.memory

pub returns-then-branch-clause-text : goal.returns-then-branch-clause-text
returns-then-branch-clause-text g c =
    let of = meant g.M.MemoizerKind.category g.C.FluentType.shown g.C.FluentType.alike g.F.FluentFunction.answer g.G.FluentFormatter.formatted g.T.Transform.changed in
    let has = pattern_asked c.args.id.now c.args.attribute in
    let is = c.in_ok-write_in.was ∙ ap Ok c.if-branch.true in
    writes_here of has _ _ (bundles_of c.args.self.now) c.loop-index.index c.in-Some.bundle.now (sym c.in-Some.ensures) c.loop-index.invariant.first
    c.args.id.now _ refl c.write_in.result _ _ _ _ _ _ _ c.loop-index.invariant.writer c.loop-index.invariant.errors is c.write_in.ensures.text

pub loop-index-preserved : goal.loop-index-preserved
loop-index-preserved g c =
    let of = meant g.M.MemoizerKind.category g.C.FluentType.shown g.C.FluentType.alike g.F.FluentFunction.answer g.G.FluentFormatter.formatted g.T.Transform.changed in
    let has = pattern_asked c.args.id.now c.args.attribute in
    let first = c.loop-index.invariant.first in
    elim c.match-bundle_at.branch [
      | in-Some+in_ok-write_in+else-branch w ↦
          let is = w.in_ok-write_in.was ∙ ap Ok w.if-branch.false in
          let none = writes_nothing of has _ g.W.Write.contents w.in-Some.bundle.now _ w.write_in.result _ _ _ _ is w.write_in.ensures.text in
          record {
            first = passes (λ b. has (of b)) (bundles_of c.args.self.now) c.loop-index.index first w.in-Some.bundle.now (sym w.in-Some.ensures) none.0;
            errors = w.errors-is ∙ none.2 ∙ c.loop-index.invariant.errors;
            writer = w.w-is ∙ none.1 ∙ c.loop-index.invariant.writer;
          }
      | in_default w ↦ record {
        first = passes_end (λ b. has (of b)) (bundles_of c.args.self.now) c.loop-index.index first (sym w.in_default.ensures);
        errors = w.errors-is ∙ c.loop-index.invariant.errors;
        writer = w.w-is ∙ c.loop-index.invariant.writer;
      }
    ]

pub returns-clause-text : goal.returns-clause-text
returns-clause-text g c =
    let of = meant g.M.MemoizerKind.category g.C.FluentType.shown g.C.FluentType.alike g.F.FluentFunction.answer g.G.FluentFormatter.formatted g.T.Transform.changed in
    let has = pattern_asked c.args.id.now c.args.attribute in
    writes_id of has _ g.W.Write.contents (bundles_of c.args.self.now)
    (none_left (λ b. has (of b)) (bundles_of c.args.self.now) c.loop-index.index c.loop-index.invariant.first (subst (λ n. n ≤ c.loop-index.index) c.len-index-end.ensures c.loop-index-test.false))
    c.args.id.now _ c.put.result _ _ _ _ _ c.loop-index.invariant.writer c.loop-index.invariant.errors c.as_bytes.ensures.value c.put.ensures.whole c.put.ensures.prefix

pub loop-index-init : goal.loop-index-init
loop-index-init g c = record { first = refl; errors = refl; writer = refl }

pub returns-in_err-write_in-clause-fault : goal.returns-in_err-write_in-clause-fault
returns-in_err-write_in-clause-fault g c =
    faults_on c.args.w.now c.loop-index.w c.write_in.new.w c.write_in.result c.loop-index.invariant.writer c.write_in.ensures.fault c.from_residual.result c.in_err-write_in.field-0.0 c.in_err-write_in.was (passed_on c.from_residual.result c.in_err-write_in.field-0.0 c.from_residual.ensures.1)

pub returns-then-branch-clause-fault : goal.returns-then-branch-clause-fault
returns-then-branch-clause-fault g c =
    no_fault c.args.w.now c.loop-index.w c.write_in.new.w c.write_in.result c.loop-index.invariant.writer c.write_in.ensures.fault c.in_ok-write_in.field-0 (tt {0}) c.in_ok-write_in.was

pub returns-then-branch-clause-memory : goal.returns-then-branch-clause-memory
returns-then-branch-clause-memory g c = λ needs. never_both _ _

pub returns-clause-fault : goal.returns-clause-fault
returns-clause-fault g c = subst (λ w. CountsFault w c.put.new.w c.put.result) c.loop-index.invariant.writer c.put.ensures.fault

pub returns-clause-memory : goal.returns-clause-memory
returns-clause-memory g c = λ needs. c.put.ensures.memory
