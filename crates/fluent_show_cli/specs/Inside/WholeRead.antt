-- What reading the whole input shows.
use Rattle.std.specs.Prelude.{◌≡◌, ℕ, List, Option}
use Rattle.std.specs.Io.KnownBytes.{Consumes}
use Rattle.std.specs.declared.vec.Vec.{Vec}
use Rattle.std.proofs.Common.{Global}
use Rattle.fluent_show_cli.specs.Runs.{IsUnread, inlet, reader_in, state_in}
use Rattle.fluent_show_cli.specs.declared.input.InputState.TheVariants.{Open}
use Rattle.fluent_show_cli.specs.declared.input.ReadFault.{ReadFault}
use Rattle.fluent_show_cli.specs.declared.input.ReadFault.TheVariants.{Memory, Reading}
use Rattle.fluent_show_cli.specs.declared.input.Reads.{Reads}

-- it gave these bytes
abbrev pub Gave : {R : Type 0} → (R → Option (List ℕ)) → Reads R → Reads R → Vec ℕ Global → Type 0
Gave remaining input input' bytes =
    Consumes (remaining (reader_in input)) (remaining (reader_in input')) bytes.items

-- a fault of reading: it was not read to its end
abbrev pub StaysUnread : {R : Type 0} → (R → Option (List ℕ)) → Reads R → Reads R → ReadFault
    → Type 0
StaysUnread remaining input input' fault =
    fault ≡ Reading → IsUnread (inlet remaining input) (inlet remaining input')

-- one of memory: no read showed the end, and none failed
abbrev pub StaysOpen : {R : Type 0} → Reads R → ReadFault → Type 0
StaysOpen input fault = fault ≡ Memory → state_in input ≡ Open
