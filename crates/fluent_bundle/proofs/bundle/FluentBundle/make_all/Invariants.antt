use Rattle.std.proofs.Common.{◌≡◌, ◌++◌}
use Rattle.std.specs.Vec.Iter.{into_iter_items}
use Rattle.fluent_bundle.specs.BundleView.{intls_in, meant}
use Rattle.fluent_bundle.specs.Calls.{asks, Makes}
use Rattle.fluent_bundle.proofs.bundle.FluentBundle.make_all.Given as goal

-- the bundle after the calls so far, and which are still to come
abbrev pub invariant-loop-call : goal.invariant-loop-call
invariant-loop-call g l =
    let of = meant g.M.MemoizerKind.category g.C.FluentType.shown g.C.FluentType.alike g.F.FluentFunction.answer g.G.FluentFormatter.formatted g.T.Transform.changed in
    let ask = asks g.F.FluentFunction.answer g.G.FluentFormatter.formatted g.T.Transform.changed (intls_in l.fn.self) in
    record {
      made : Makes of ask l.yielded l.fn.self l.self;
      whole : l.fn.calls.items ≡ l.yielded ++ into_iter_items l.call-iterator;
    }
