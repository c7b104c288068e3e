use Rattle.std.proofs.Common.{◌≡◌, take, map}
use Rattle.fluent_syntax.specs.Chunks.{entries}
use Rattle.fluent_resource.specs.ResourceView.{entries_of}
use Rattle.fluent_end_to_end_laws.specs.Inside.OnTheWay.{source_of}
use Rattle.fluent_end_to_end_laws.proofs.resources_of.Given as goal

-- the resources so far are those of the calls so far
abbrev pub invariant-loop-call : goal.invariant-loop-call
invariant-loop-call g l = map entries_of l.resources.items ≡ map (λ a. entries (source_of a)) (take l.call-index l.calls)
