use Rattle.std.proofs.Common.{◌≡◌, map}
use Rattle.fluent_resource.specs.ResourceView.{entries_of}
use Rattle.fluent_bundle.specs.Calls.{asks}
use Rattle.fluent_end_to_end_laws.specs.Inside.OnTheWay.{step_over}
use Rattle.fluent_end_to_end_laws.proofs.calls_of.Given as goal

-- the calls so far, with the entries that were read for them
abbrev pub invariant-loop-call : goal.invariant-loop-call
invariant-loop-call g l =
    (i : g.row.M.Denot) → map (asks g.F.FluentFunction.answer g.G.FluentFormatter.formatted g.T.Transform.changed i) l.made.items
    ≡ map (λ p. step_over g.F.FluentFunction.answer g.G.FluentFormatter.formatted g.T.Transform.changed i p.0 (entries_of p.1.now)) l.yielded
