use Rattle.std.proofs.Common.{◌≡◌, ◌++◌, drop, map}
use Rattle.serde_json.specs.View.{view}
use Rattle.fluent_cli_report.specs.Sarif.{sarif_rule}
use Rattle.fluent_cli_report.proofs.sarif.rules_of.Given as goal

abbrev pub invariant-loop-name : goal.invariant-loop-name
invariant-loop-name l = map view l.list.items ++ map sarif_rule (map (λ name. name.now) (drop l.name-index l.names))
    ≡ map sarif_rule (map (λ name. name.now) l.names)
