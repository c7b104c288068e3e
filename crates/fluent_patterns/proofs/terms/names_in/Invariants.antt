use Rattle.std.proofs.Common.{◌≡◌, ◌++◌, drop}
use Rattle.fluent_ast.specs.References.{nameds_view}
use Rattle.fluent_places.specs.Asked.{texts}
use Rattle.fluent_places.specs.Needs.{names_in}
use Rattle.fluent_patterns.proofs.terms.names_in.Given as goal

abbrev pub invariant-loop-argument : goal.invariant-loop-argument
invariant-loop-argument l =
    texts l.names.items ++ names_in (nameds_view (drop l.argument-index l.named)) ≡ names_in (nameds_view l.named)
