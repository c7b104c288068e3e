use Rattle.std.proofs.Common.{◌∙◌, ap}
use Rattle.fluent_values.specs.View.{value_view, named}
use Rattle.fluent_values.specs.Inside.Merging.{with_rest}
use Rattle.fluent_values.proofs.Merging.{merged_in_one_walk}
use Rattle.fluent_values.specs.Facts.Pairs.{rise_seen}
use Rattle.fluent_values.proofs.types.merge.FluentNumberOptionsMergeArgs.merge.Goals as goal

pub returns-clause-ok : goal.returns-clause-ok
unfolding named
returns-clause-ok g c =
    let m = named g.C.FluentType.content c.args.args.now in
    c.merge_rest.ensures ∙ ap (with_rest m) c.in_ok-merge_currency.ensures.ok
    ∙ merged_in_one_walk m _ (rise_seen (value_view g.C.FluentType.content) c.args.args.now.pairs.items c.args.args.now.ordered)
