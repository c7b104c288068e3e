use Rattle.fluent_syntax.proofs.parser.expression.+nest.Given as goal

abbrev pub decreases-inline_placeable : goal.decreases-inline_placeable
decreases-inline_placeable l = l.depth

abbrev pub decreases-call_arguments : goal.decreases-call_arguments
decreases-call_arguments l = l.depth
