use Rattle.std.proofs.Common.{rules}
use Rattle.fluent_ast.specs.declared.ast.Expression.{the_lemmas}
use Rattle.fluent_clean.proofs.CountedEnds.{elements_counted, variants_counted, positional_counted, named_counted}
use Rattle.fluent_clean.proofs.counting.+counting.Goals as goal

pub most_opened-returns : goal.most_opened-returns
most_opened-returns t c = let all = elements_counted _ _ _ _ _ c.loop-element-test.false c.loop-element.invariant.small c.loop-element.invariant.counted in search (rules, the_lemmas)

pub in_largest-returns : goal.in_largest-returns
in_largest-returns t c = variants_counted _ _ _ _ _ c.loop-variant-test.false c.loop-variant.invariant.small c.loop-variant.invariant.counted

pub in_positional-returns : goal.in_positional-returns
in_positional-returns t c = positional_counted _ _ _ _ _ c.loop-argument-test.false c.loop-argument.invariant.small c.loop-argument.invariant.counted

pub in_named-returns : goal.in_named-returns
in_named-returns t c = named_counted _ _ _ _ _ c.loop-argument-test.false c.loop-argument.invariant.small c.loop-argument.invariant.counted
