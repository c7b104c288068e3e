use Rattle.std.proofs.Common.{rules, ◌≡◌, ◌∙◌, ◌≤◌, sym, ap, subst, is_some, true, false}
use Rattle.fluent_ast.specs.View.{pattern_view}
use Rattle.fluent_bundle.specs.BundleView.{meant}
use Rattle.fluent_fallback.specs.Chain.{bundles_of, pattern_of}
use Rattle.fluent_fallback.proofs.First.{is_some-map, index_after, index_here, index_none, index_past}
use Rattle.fluent_fallback.proofs.chain.Chain.find.Goals as goal
use Rattle.fluent_fallback.proofs.chain.Chain.find.Goals.{in-Some+else-is_some, in_default}

pub returns-then-is_some : goal.returns-then-is_some
returns-then-is_some g c =
    let of = meant g.M.MemoizerKind.category g.C.FluentType.shown g.C.FluentType.alike g.F.FluentFunction.answer g.G.FluentFormatter.formatted g.T.Transform.changed in
    let found : is_some c.pattern_in.result ≡ true = search rules in
    index_here (λ b. is_some (pattern_of of c.args.id.now c.args.attribute b)) (bundles_of c.args.self.now) c.loop-index.index c.in-Some.bundle.now (sym c.in-Some.ensures) _ c.loop-index.invariant
    (sym (ap is_some c.pattern_in.ensures) ∙ is_some-map (λ p. pattern_view p.now) c.pattern_in.result ∙ found)

pub loop-index-preserved : goal.loop-index-preserved
loop-index-preserved g c =
    let of = meant g.M.MemoizerKind.category g.C.FluentType.shown g.C.FluentType.alike g.F.FluentFunction.answer g.G.FluentFormatter.formatted g.T.Transform.changed in
    elim c.match-bundle_at.branch [
      | in-Some+else-is_some w ↦
          let found : is_some w.pattern_in.result ≡ false = search rules in
          index_after (λ b. is_some (pattern_of of c.args.id.now c.args.attribute b)) (bundles_of c.args.self.now) c.loop-index.index w.in-Some.bundle.now (sym w.in-Some.ensures) _ c.loop-index.invariant
          (sym (ap is_some w.pattern_in.ensures) ∙ is_some-map (λ p. pattern_view p.now) w.pattern_in.result ∙ found)
      | in_default w ↦ index_past (λ b. is_some (pattern_of of c.args.id.now c.args.attribute b)) (bundles_of c.args.self.now) c.loop-index.index _ (sym w.in_default.ensures) c.loop-index.invariant
    ]

pub returns : goal.returns
returns g c =
    let of = meant g.M.MemoizerKind.category g.C.FluentType.shown g.C.FluentType.alike g.F.FluentFunction.answer g.G.FluentFormatter.formatted g.T.Transform.changed in
    index_none (λ b. is_some (pattern_of of c.args.id.now c.args.attribute b)) (bundles_of c.args.self.now) c.loop-index.index _ (subst (λ n. n ≤ c.loop-index.index) c.len-index-end.ensures c.loop-index-test.false) c.loop-index.invariant
