use Rattle.std.proofs.Common.{◌∙◌, ap, sym, map, map-id, []}
use Rattle.std.proofs.lemmas.Iterator.Consumers.{YieldsList-end, YieldsList-from_rest}
use Rattle.std.specs.Cow.{cow_str_bytes}
use Rattle.fluent_semantics.specs.Arguments.{set, set_all}
use Rattle.fluent_values.specs.View.{value_view}
use Rattle.fluent_values.specs.Args.{pair_view}
use Rattle.fluent_values.specs.Facts.Ordered.{keys_rise, entries_themselves}
use Rattle.fluent_values.specs.Facts.Pairs.{set_all_in_order}
use Rattle.fluent_values.specs.Facts.Setting.{set_all_more}
use Rattle.fluent_resolver_state.proofs.gathered.in_order.Goals as goal

pub loop-name-preserved : goal.loop-name-preserved
loop-name-preserved g c =
    let content = g.C.FluentType.content in
    let name = c.in-Some.name in
    let value = c.in-Some.value in
    c.in_ok-set.ensures.ok ∙ ap (set (cow_str_bytes name) (value_view content value)) c.loop-name.invariant
    ∙ sym (set_all_more (pair_view content) c.loop-name.yielded (name, value) _)

pub returns : goal.returns
returns g c =
    let content = g.C.FluentType.content in
    let given = c.into_iter-name-iterator.ensures.into_iter_gives in
    let end = YieldsList-end (YieldsList-from_rest {shows = λ x. x} c.args.tree.entries given.0) c.loop-name.yielded c.loop-name.name-iterator c.loop-name.yielded_by c.next.result c.next.new.self c.in-None.is c.next.ensures.steps in
    let pairs = map (pair_view content) c.args.tree.entries in
    c.loop-name.invariant ∙ ap (λ es. set_all (map (pair_view content) es) []) (sym (map-id c.loop-name.yielded) ∙ end.0)
    ∙ set_all_in_order pairs (keys_rise cow_str_bytes (value_view content) c.args.tree.entries given.5)
    ∙ entries_themselves cow_str_bytes (value_view content) c.args.tree.entries given.5
