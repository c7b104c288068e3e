-- What an adding call answers.
use Rattle.std.specs.Prelude.{[], ◌∷◌, Result, Ok, Err, alloc_error}
use Rattle.std.proofs.Common.{Global}
use Rattle.std.specs.declared.vec.Vec.{Vec}
use Rattle.std.specs.declared.alloc.AllocError.{AllocError}
use Rattle.fluent_bundle_entries.specs.declared.errors.FluentError.{FluentError}
use Rattle.fluent_bundle.specs.declared.bundle.AddFault.{AddFault}
use Rattle.fluent_bundle.specs.declared.bundle.AddFault.TheVariants as fault

-- by the reports of what it left
abbrev pub answer_of : Result (Vec FluentError Global) AllocError → Result (Unit {0}) AddFault
answer_of (Err e) = Err fault.Memory
answer_of (Ok errors) = elim errors.items [ [] ↦ Ok tt | ◌∷◌ e es ↦ Err (fault.Overriding errors) ]

-- by what an adding call answers, where what it left is no failure
abbrev pub unless_alloc_failed : Result (Unit {0}) AddFault → Result (Unit {0}) AllocError
unless_alloc_failed (Err fault.Memory) = Err alloc_error
unless_alloc_failed _ = Ok tt
