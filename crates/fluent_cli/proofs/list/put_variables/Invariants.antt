use Rattle.std.proofs.Common.{◌≡◌, ◌++◌, drop, flat_map, string_bytes}
use Rattle.fluent_places.specs.Asked.{texts}
use Rattle.fluent_cli.specs.Listed.{variable_text}
use Rattle.fluent_cli.proofs.list.put_variables.Given as goal

abbrev pub invariant-loop-variable : goal.invariant-loop-variable
invariant-loop-variable l =
    string_bytes l.text ++ flat_map variable_text (texts (drop l.variable-index l.variables))
    ≡ string_bytes l.initial.text ++ flat_map variable_text (texts l.variables)
