use Rattle.std.proofs.Common.{◌≡◌, drop}
use Rattle.fluent_bundle.specs.BundleView.{meant}
use Rattle.fluent_fallback.specs.Chain.{first_with, bundles_of, pattern_of}
use Rattle.fluent_fallback.proofs.chain.Chain.format.Given as goal

-- the first of those that are left is the first of all, and nothing was added
abbrev pub invariant-loop-index : goal.invariant-loop-index
invariant-loop-index g l =
    let has = pattern_of (meant g.M.MemoizerKind.category g.C.FluentType.shown g.C.FluentType.alike g.F.FluentFunction.answer g.G.FluentFormatter.formatted g.T.Transform.changed) l.id l.attribute in
    record {
      first : first_with has (drop l.index (bundles_of l.self)) ≡ first_with has (bundles_of l.self);
      errors : l.errors ≡ l.fn.errors;
    }
