use Rattle.std.proofs.Common.{◌≡◌, map, string_bytes}
use Rattle.fluent_c_handles.specs.Calls.Finding.{id_lines}
use Rattle.fluent_c_handles.proofs.message_ids.lines.Given as goal

-- the lines of those so far
abbrev pub invariant-loop-id : goal.invariant-loop-id
invariant-loop-id l = string_bytes l.text ≡ id_lines (map (λ id. id.now) l.yielded)
