use Rattle.std.proofs.Common.{◌++◌, ap, map-id, rules, sym, ◌∙◌}
use Rattle.std.proofs.lemmas.Iterator.Adapters.{YieldsList-from_vec}
use Rattle.std.proofs.lemmas.Iterator.Consumers.{YieldsList-end}
use Rattle.fluent_cli_report.specs.Kept.{row_views}
use Rattle.fluent_cli_report.proofs.report.add_rows.Goals as goal

pub returns : goal.returns
returns c =
    let from = YieldsList-from_vec {s = c.into_iter-row-iterator.result} c.args.rows.items (search rules) (search rules) in
    let end = YieldsList-end from c.loop-row.yielded c.loop-row.row-iterator c.loop-row.yielded_by c.next.result c.next.new.self c.in-None.is c.next.ensures.steps in
    c.loop-row.invariant ∙ ap (λ rows. row_views c.args.all.now.items ++ row_views rows) (sym (map-id c.loop-row.yielded) ∙ end.0)
