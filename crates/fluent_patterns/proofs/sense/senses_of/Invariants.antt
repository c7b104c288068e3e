use Rattle.std.proofs.Common.{◌≡◌, drop, fold}
use Rattle.fluent_ast.specs.References.{variants_view}
use Rattle.fluent_patterns.specs.Selects.{keys_of, sense_of, senses_of, with_sense}
use Rattle.fluent_patterns.specs.SelectView.{senses_view}
use Rattle.fluent_patterns.proofs.sense.senses_of.Given as goal

abbrev pub invariant-loop-variant : goal.invariant-loop-variant
invariant-loop-variant l =
    fold (λ senses k. with_sense senses (sense_of k)) (senses_view l.senses) (keys_of (variants_view (drop l.variant-index l.variants)))
    ≡ senses_of (keys_of (variants_view l.variants))
