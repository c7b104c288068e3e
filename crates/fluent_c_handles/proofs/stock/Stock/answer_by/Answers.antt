use Rattle.std.proofs.Common.{◌≡◌, ◌∙◌, [], ap, is_some, map, string_bytes}
use Rattle.std.proofs.lemmas.Result.{on_ok_weaker}
use Rattle.fluent_c_handles.specs.Answers.{bundle_view, declared_view}
use Rattle.fluent_c_handles.specs.Inside.Put.{with_functions}
use Rattle.fluent_c_handles.specs.Inside.Resources.{given}
use Rattle.fluent_c_handles.proofs.Alike.{Alike, alike_content, alike_then, answered, changed_alike, put_alike, shown_alike}
use Rattle.fluent_c_handles.proofs.Ordered.{ids_rise}
use Rattle.fluent_c_handles.proofs.Stocks.{among_same, from_same}
use Rattle.fluent_c_handles.proofs.stock.Stock.answer_by.Goals as goal

pub invariant_of-self : goal.invariant_of-self
invariant_of-self c =
    let old = c.args.self.now in
    let b = bundle_view old.bundle in
    let b1 = bundle_view c.put_functions.new.bundle in
    let one = put_alike c.args.answers.now.value.meant.table _ b b1 (ids_rise old.bundle) c.put_functions.ensures.some in
    record {
      from = from_same (given old.added.items) b.ids b1.ids (one.ids []) old.from;
      names = among_same (map string_bytes old.declared.functions.items) b.ids old.names b1.ids (one.ids []);
      shows = ap is_some c.put_functions.ensures.kept.formatter ∙ old.shows;
      changes = ap is_some c.put_functions.ensures.kept.transform ∙ old.changes;
    }

pub returns-in_err-put_functions-clause-kept : goal.returns-in_err-put_functions-clause-kept
returns-in_err-put_functions-clause-kept c =
    let old = c.args.self.now in
    let b = bundle_view old.bundle in
    let b1 = bundle_view c.put_functions.new.bundle in
    alike_content (declared_view old.declared) b b1 (string_bytes old.told) (put_alike c.args.answers.now.value.meant.table _ b b1 (ids_rise old.bundle) c.put_functions.ensures.some)

pub invariant_of-self-in-Break-branch-2 : goal.invariant_of-self-in-Break-branch-2
invariant_of-self-in-Break-branch-2 c =
    let old = c.args.self.now in
    let t = c.args.answers.now.value.meant.table in
    let b = bundle_view old.bundle in
    let b1 = bundle_view c.put_functions.new.bundle in
    let b2 = bundle_view c.put_formatter.new.bundle in
    let one = put_alike t _ b b1 (ids_rise old.bundle) c.put_functions.ensures.some in
    let two = alike_then b b1 b2 one (shown_alike t old.declared.formatter b1 b2 c.put_formatter.result c.put_formatter.ensures.ok c.put_formatter.ensures.err) in
    record {
      from = from_same (given old.added.items) b.ids b2.ids (two.ids []) old.from;
      names = among_same (map string_bytes old.declared.functions.items) b.ids old.names b2.ids (two.ids []);
      shows = c.put_formatter.ensures.formatter;
      changes = ap is_some c.put_formatter.ensures.transform ∙ (ap is_some c.put_functions.ensures.kept.transform ∙ old.changes);
    }

pub returns-in_err-put_formatter-clause-kept : goal.returns-in_err-put_formatter-clause-kept
returns-in_err-put_formatter-clause-kept c =
    let old = c.args.self.now in
    let t = c.args.answers.now.value.meant.table in
    let b = bundle_view old.bundle in
    let b1 = bundle_view c.put_functions.new.bundle in
    let b2 = bundle_view c.put_formatter.new.bundle in
    alike_content (declared_view old.declared) b b2 (string_bytes old.told)
    (alike_then b b1 b2 (put_alike t _ b b1 (ids_rise old.bundle) c.put_functions.ensures.some) (shown_alike t old.declared.formatter b1 b2 c.put_formatter.result c.put_formatter.ensures.ok c.put_formatter.ensures.err))

pub invariant_of-self-2 : goal.invariant_of-self-2
invariant_of-self-2 c =
    let old = c.args.self.now in
    let t = c.args.answers.now.value.meant.table in
    let b = bundle_view old.bundle in
    let b1 = bundle_view c.put_functions.new.bundle in
    let b2 = bundle_view c.put_formatter.new.bundle in
    let b3 = bundle_view c.put_transform.new.bundle in
    let one = put_alike t _ b b1 (ids_rise old.bundle) c.put_functions.ensures.some in
    let two = alike_then b b1 b2 one (shown_alike t old.declared.formatter b1 b2 c.put_formatter.result c.put_formatter.ensures.ok c.put_formatter.ensures.err) in
    let three = alike_then b b2 b3 two (changed_alike t old.declared.transform b2 b3 c.put_transform.result c.put_transform.ensures.ok c.put_transform.ensures.err) in
    record {
      from = from_same (given old.added.items) b.ids b3.ids (three.ids []) old.from;
      names = among_same (map string_bytes old.declared.functions.items) b.ids old.names b3.ids (three.ids []);
      shows = ap is_some c.put_transform.ensures.formatter ∙ c.put_formatter.ensures.formatter;
      changes = c.put_transform.ensures.transform;
    }

pub returns-clause-ok : goal.returns-clause-ok
returns-clause-ok c =
    let old = c.args.self.now in
    let t = c.args.answers.now.value.meant.table in
    let all = c.in_ok-put_functions.ensures.ok ∙ ap (λ xs. with_functions t (map string_bytes xs) (bundle_view old.bundle)) c.as_slice-names.ensures.value in
    on_ok_weaker c.put_transform.result (λ e. e ∙ answered t old (bundle_view c.put_functions.new.bundle) (bundle_view c.put_formatter.new.bundle) all c.in_ok-put_formatter.ensures.ok) c.put_transform.ensures.ok

pub returns-clause-kept : goal.returns-clause-kept
returns-clause-kept c =
    let old = c.args.self.now in
    let t = c.args.answers.now.value.meant.table in
    let b = bundle_view old.bundle in
    let b1 = bundle_view c.put_functions.new.bundle in
    let b2 = bundle_view c.put_formatter.new.bundle in
    let b3 = bundle_view c.put_transform.new.bundle in
    let one = put_alike t _ b b1 (ids_rise old.bundle) c.put_functions.ensures.some in
    let two = alike_then b b1 b2 one (shown_alike t old.declared.formatter b1 b2 c.put_formatter.result c.put_formatter.ensures.ok c.put_formatter.ensures.err) in
    alike_content (declared_view old.declared) b b3 (string_bytes old.told) (alike_then b b2 b3 two (changed_alike t old.declared.transform b2 b3 c.put_transform.result c.put_transform.ensures.ok c.put_transform.ensures.err))
