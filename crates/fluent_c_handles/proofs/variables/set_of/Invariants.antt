use Rattle.std.proofs.Common.{take}
use Rattle.fluent_places.specs.Asked.{texts}
use Rattle.fluent_c_handles.specs.Calls.Finding.{Rise}
use Rattle.fluent_c_handles.specs.Inside.Gathered.{HaveSame, texts_of}
use Rattle.fluent_c_handles.proofs.variables.set_of.Given as goal

-- it has those so far
abbrev pub invariant-loop-name : goal.invariant-loop-name
invariant-loop-name l = record { same : HaveSame (texts_of l.set.keys) (texts (take l.name-index l.names)); rise : Rise (texts_of l.set.keys) }
