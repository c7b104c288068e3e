use Rattle.std.proofs.Common.{◌≡◌, drop}
use Rattle.std.specs.List.{list_any}
use Rattle.std.specs.Str.{bytes_eq}
use Rattle.fluent_cli_words.specs.Given.{texts}
use Rattle.fluent_cli_words.proofs.kinds.is_among.Given as goal

abbrev pub invariant-loop-one : goal.invariant-loop-one
invariant-loop-one l =
    list_any (λ one. bytes_eq one l.name) (texts (drop l.one-index l.names)) ≡ list_any (λ one. bytes_eq one l.name) (texts l.names)
