use Rattle.std.proofs.Common.{◌≡◌, ◌∙◌, None, Ok, Err, if◌then◌else◌, ap, subst, rules}
use Rattle.std.specs.List.{insert}
use Rattle.std.specs.Result.{is_ok}
use Rattle.std.specs.Cow.{cow_str_bytes}
use Rattle.fluent_semantics.specs.Arguments as fin
use Rattle.fluent_values.specs.Names.{IsPlaceOf}
use Rattle.fluent_values.specs.View.{value_view, named}
use Rattle.fluent_values.specs.Facts.Keyed.{both}
use Rattle.fluent_values.specs.Facts.Pairs.{put_there, put_in_gap, rise_there, rise_after, find_in_gap, rise_seen}
use Rattle.fluent_values.proofs.args.FluentArgs.set.Goals as goal

pub invariant_of-self : goal.invariant_of-self
invariant_of-self g c =
    let at = subst (λ t. IsPlaceOf t c.args.self.now.pairs.items (Ok c.in-Ok.at)) c.as_str.ensures.value c.in-Ok.ensures in
    record { ordered = rise_there c.args.self.now.pairs.items c.in-Ok.at c.args.name c.args.value c.args.self.now.ordered at.0 at.1 }

pub invariant_of-self-in-Err : goal.invariant_of-self-in-Err
invariant_of-self-in-Err g c =
    let at = subst (λ t. IsPlaceOf t c.args.self.now.pairs.items (Err c.in-Err.at)) c.as_str.ensures.value c.in-Err.ensures in
    record { ordered = rise_after c.insert_at.result c.args.self.now.pairs.items c.insert_at.new.items.items c.in-Err.at c.args.name c.args.value c.args.self.now.ordered at c.insert_at.ensures }

pub returns-in_err-insert_at-in-Err-clause-new_name : goal.returns-in_err-insert_at-in-Err-clause-new_name
unfolding named
returns-in_err-insert_at-in-Err-clause-new_name g c =
    let at = subst (λ t. IsPlaceOf t c.args.self.now.pairs.items (Err c.in-Err.at)) c.as_str.ensures.value c.in-Err.ensures in
    let absent : fin.get (cow_str_bytes c.args.name) (named g.C.FluentType.content c.args.self.now) ≡ None =
    find_in_gap cow_str_bytes (value_view g.C.FluentType.content) c.args.self.now.pairs.items c.in-Err.at (cow_str_bytes c.args.name) at.1 at.2 in
    search (rules, absent)

pub returns-in-Ok-clause-ok : goal.returns-in-Ok-clause-ok
unfolding named
returns-in-Ok-clause-ok g c =
    let at = subst (λ t. IsPlaceOf t c.args.self.now.pairs.items (Ok c.in-Ok.at)) c.as_str.ensures.value c.in-Ok.ensures in
    let of = value_view g.C.FluentType.content in
    let up = rise_seen of c.args.self.now.pairs.items c.args.self.now.ordered in
    put_there cow_str_bytes of c.args.self.now.pairs.items c.in-Ok.at c.args.name c.args.value up at.0 at.1

pub returns-in_ok-insert_at-in-Err-clause-ok : goal.returns-in_ok-insert_at-in-Err-clause-ok
unfolding named
returns-in_ok-insert_at-in-Err-clause-ok g c =
    let at = subst (λ t. IsPlaceOf t c.args.self.now.pairs.items (Err c.in-Err.at)) c.as_str.ensures.value c.in-Err.ensures in
    let of = value_view g.C.FluentType.content in
    ap (both cow_str_bytes of) (c.insert_at.ensures ∙ ap (λ r. if is_ok r then insert c.args.self.now.pairs.items c.in-Err.at (c.args.name, c.args.value) else c.args.self.now.pairs.items) c.in_ok-insert_at-in-Err.was)
    ∙ put_in_gap cow_str_bytes of c.args.self.now.pairs.items c.in-Err.at c.args.name c.args.value at.0 at.1 at.2
