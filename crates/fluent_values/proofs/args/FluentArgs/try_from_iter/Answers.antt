use Rattle.std.proofs.Common.{◌∙◌, ap, subst, sym}
use Rattle.std.specs.Cow.{cow_str_bytes}
use Rattle.fluent_semantics.specs.Arguments.{set}
use Rattle.fluent_values.specs.View.{value_view}
use Rattle.fluent_values.specs.Args.{CanGive, pair_view}
use Rattle.fluent_values.specs.Facts.Setting.{first_given, on_err, set_all_more}
use Rattle.fluent_values.proofs.args.FluentArgs.try_from_iter.Goals as goal

pub loop-name-preserved : goal.loop-name-preserved
loop-name-preserved g c =
    let content = g.C.FluentType.content in
    let name = c.in-Some.name in
    let value = c.in-Some.value in
    c.in_ok-set.ensures.ok ∙ ap (set (cow_str_bytes name) (value_view content value)) c.loop-name.invariant
    ∙ sym (set_all_more (pair_view content) c.loop-name.yielded (name, value) _)

pub returns-in_err-set-clause-some : goal.returns-in_err-set-clause-some
returns-in_err-set-clause-some g c =
    let first = first_given g.I.Iterator.next_gives c.into_iter-name-iterator.result c.loop-name.name-iterator c.next.new.self c.loop-name.yielded c.loop-name.yielded_by c.in-Some.is c.next.ensures.steps in
    on_err c.from_residual.result (subst (CanGive g.I.Iterator.next_gives) c.into_iter-name-iterator.ensures.into_iter_gives first)
