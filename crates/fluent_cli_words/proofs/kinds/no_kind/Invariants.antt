use Rattle.std.proofs.Common.{◌≡◌, drop, find, not}
use Rattle.fluent_cli_words.specs.Faults.{is_kind}
use Rattle.fluent_cli_words.specs.Given.{texts}
use Rattle.fluent_cli_words.proofs.kinds.no_kind.Given as goal

abbrev pub invariant-loop-name : goal.invariant-loop-name
invariant-loop-name l = find (λ text. not (is_kind text)) (texts (drop l.name-index l.names)) ≡ find (λ text. not (is_kind text)) (texts l.names)
