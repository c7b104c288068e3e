-- What a single read of the input shows.
use Rattle.std.specs.Prelude.{ℕ, zero, suc, List, Option, Result, Ok, Err}
use Rattle.std.specs.Io.KnownBytes.{ReadConsumes}
use Rattle.fluent_show_cli.specs.Runs.{reader_in, room_in}
use Rattle.fluent_show_cli.specs.declared.input.InputState.{InputState}
use Rattle.fluent_show_cli.specs.declared.input.InputState.TheVariants.{Open, AtEnd, Failed}
use Rattle.fluent_show_cli.specs.declared.input.Reads.{Reads}

-- the end, where it gives no byte
abbrev pub state_after : {E : Type 0} → Result ℕ E → InputState
state_after (Ok zero) = AtEnd
state_after (Ok (suc n)) = Open
state_after (Err e) = Failed

-- the bytes that it gives stand in the room
abbrev pub ReadsInto : {R E : Type 0} → (R → Option (List ℕ)) → Reads R → Reads R → Result ℕ E
    → Type 0
ReadsInto remaining input input' result =
    ReadConsumes (remaining (reader_in input)) (remaining (reader_in input')) result (room_in input')
