use Rattle.std.proofs.Common.{ap, map, subst, sym}
use Rattle.fluent_semantics.specs.Arguments.{IsInOrder}
use Rattle.fluent_values.specs.View.{value_view, named}
use Rattle.fluent_values.specs.Args.{pair_view, given_left}
use Rattle.fluent_values.specs.Facts.Pairs.{in_order}
use Rattle.fluent_values.proofs.args.FluentArgsIntoIterator.into_iter.Goals as goal

pub returns : goal.returns
unfolding given_left named
returns g c =
    let same = ap (map (pair_view g.C.FluentType.content)) c.into_iter.ensures.rest in
    record { into_iter_gives = (same, subst IsInOrder (sym same) (in_order (value_view g.C.FluentType.content) c.args.self.pairs.items c.args.self.ordered)) }
