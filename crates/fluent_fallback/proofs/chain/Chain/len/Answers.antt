use Rattle.std.proofs.Common.{ap, length, sym, ◌∙◌}
use Rattle.std.proofs.lemmas.List.{length-map}
use Rattle.fluent_fallback.specs.Chain.{in_order}
use Rattle.fluent_fallback.proofs.chain.Chain.len.Goals as goal

pub returns-in-Refs : goal.returns-in-Refs
returns-in-Refs g c = sym (length-map c.in-Refs.refs.now (λ r. r.0.now)) ∙ ap (λ bs. length (in_order bs)) (sym c.in-Refs.is)
