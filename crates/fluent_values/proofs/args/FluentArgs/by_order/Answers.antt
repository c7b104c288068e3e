use Rattle.std.proofs.Common.{sym, ap, ◌∙◌, Some}
use Rattle.std.specs.Cow.{cow_str_bytes}
use Rattle.fluent_values.specs.View.{value_view, named}
use Rattle.fluent_values.specs.Facts.Pairs.{find_there, find_in_gap, rise_seen}
use Rattle.fluent_values.proofs.args.FluentArgs.by_order.Goals as goal

pub returns-in-Ok : goal.returns-in-Ok
unfolding named
returns-in-Ok g c =
    let of = value_view g.C.FluentType.content in
    let pairs = c.args.self.now.pairs.items in
    let up = rise_seen of pairs c.args.self.now.ordered in
    ap (λ p. Some (of p.1)) c.index.ensures
    ∙ sym (find_there cow_str_bytes of pairs c.in-Ok.at c.args.name.now c.index.result.now up c.in-Ok.ensures.0 c.in-Ok.ensures.1)

pub returns-in-Err : goal.returns-in-Err
unfolding named
returns-in-Err g c = sym (find_in_gap cow_str_bytes (value_view g.C.FluentType.content) c.args.self.now.pairs.items c.in-Err.field-0 c.args.name.now c.in-Err.ensures.1 c.in-Err.ensures.2)
