use Rattle.std.proofs.Common.{◌≡◌, drop}
use Rattle.std.specs.Prelude.{is_some}
use Rattle.std.specs.List.{position_from}
use Rattle.fluent_bundle.specs.BundleView.{meant}
use Rattle.fluent_fallback.specs.Chain.{index_with, bundles_of, pattern_of}
use Rattle.fluent_fallback.proofs.chain.Chain.find.Given as goal

-- the first of those that are left is the first of all
abbrev pub invariant-loop-index : goal.invariant-loop-index
invariant-loop-index g l =
    let has = pattern_of (meant g.M.MemoizerKind.category g.C.FluentType.shown g.C.FluentType.alike g.F.FluentFunction.answer g.G.FluentFormatter.formatted g.T.Transform.changed) l.id l.attribute in
    position_from (λ b. is_some (has b)) l.index (drop l.index (bundles_of l.self)) ≡ index_with has (bundles_of l.self)
