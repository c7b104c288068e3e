use Rattle.std.proofs.Common.{arith, sym, rules}
use Rattle.std.proofs.lemmas.List.{length-take-le, take_all}
use Rattle.fluent_patterns.proofs.choices.tried.Goals as goal

pub slice_bounds-result-end : goal.slice_bounds-result-end
slice_bounds-result-end c = sym (length-take-le 32 c.args.list.now (omega (arith, c.if-list-le-MOST.false)))

pub returns-then-list-le-MOST : goal.returns-then-list-le-MOST
returns-then-list-le-MOST c = search (rules, take_all)
