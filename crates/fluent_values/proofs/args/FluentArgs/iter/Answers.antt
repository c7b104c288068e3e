use Rattle.std.proofs.Common.{ap, map, subst, sym, ◌∙◌}
use Rattle.fluent_semantics.specs.Arguments.{IsInOrder}
use Rattle.fluent_values.specs.View.{value_view}
use Rattle.fluent_values.specs.Args.{pair_view, shown_left}
use Rattle.fluent_values.specs.Facts.Pairs.{in_order}
use Rattle.fluent_values.proofs.args.FluentArgs.iter.Goals as goal

pub returns-clause-rises : goal.returns-clause-rises
unfolding shown_left
returns-clause-rises g c =
    let of = value_view g.C.FluentType.content in
    let pairs = c.args.self.now.pairs.items in
    subst IsInOrder (sym (ap (map (pair_view g.C.FluentType.content)) (c.iter.ensures.rest ∙ c.deref.ensures.value))) (in_order of pairs c.args.self.now.ordered)
