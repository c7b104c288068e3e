use Rattle.std.proofs.Common.{◌≡◌, ◌++◌, drop}
use Rattle.fluent_ast.specs.References.{variants_view}
use Rattle.fluent_patterns.specs.Selects.{keys_of}
use Rattle.fluent_patterns.specs.Choices.{choices_in, keyed}
use Rattle.fluent_patterns.proofs.choices.add_keys.Given as goal

abbrev pub invariant-loop-variant : goal.invariant-loop-variant
invariant-loop-variant l =
    choices_in l.list.items ++ keyed l.variable (keys_of (variants_view (drop l.variant-index l.variants)))
    ≡ choices_in l.fn.list.items ++ keyed l.variable (keys_of (variants_view l.variants))
