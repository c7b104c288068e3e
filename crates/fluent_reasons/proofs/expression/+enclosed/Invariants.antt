use Rattle.fluent_reasons.proofs.expression.+enclosed.Given as goal

abbrev pub decreases-enclosed : goal.decreases-enclosed
decreases-enclosed l = l.depth
