use Rattle.std.proofs.Common.{◌∙◌, ap, is_some, map, string_bytes, sym, subst}
use Rattle.fluent_ast.specs.Tree.{Text}
use Rattle.fluent_semantics.specs.Bundle.{Bundle}
use Rattle.fluent_resource.specs.ResourceView.{entries_of, source_in}
use Rattle.fluent_c_handles.specs.Answers.{bundle_view, declared_view}
use Rattle.fluent_c_handles.specs.Inside.Resources.{AllFrom, AreAmong, given}
use Rattle.fluent_c_handles.proofs.From.{overridden_from}
use Rattle.fluent_c_handles.proofs.Stocks.{among_overridden, overridden_kept}
use Rattle.fluent_c_handles.proofs.stock.Stock.put_over.Goals as goal

-- the resource was added, and stands behind those before it
pub invariant_of-self-2 : goal.invariant_of-self-2
invariant_of-self-2 c =
    let old = c.args.self.now in
    let b = bundle_view old.bundle in
    let b' = bundle_view c.override_with.new.bundle in
    let names = map string_bytes old.declared.functions.items in
    let before = subst (λ all. AllFrom (given all) b.ids) (sym c.reserve.ensures.items) old.from in
    record {
      from = subst (λ all. AllFrom (given all) b'.ids) (sym c.push_reserved.ensures.items) (overridden_from c.reserve.new.self.items (record { resource = c.args.resource }) b b' c.in_ok-override_with.ensures.ok before);
      names = subst (λ (x : Bundle Text). AreAmong names x.ids) (sym c.in_ok-override_with.ensures.ok) (among_overridden names b.ids old.names (entries_of c.args.resource.now));
      shows = ap is_some c.in_ok-override_with.ensures.kept.formatter ∙ old.shows;
      changes = ap is_some c.in_ok-override_with.ensures.kept.transform ∙ old.changes;
    }

pub returns-clause-ok : goal.returns-clause-ok
returns-clause-ok c =
    let old = c.args.self.now in
    overridden_kept (declared_view old.declared) (bundle_view old.bundle) (bundle_view c.override_with.new.bundle) (source_in c.args.resource.now) (string_bytes c.in_ok-told.told) (string_bytes old.told)
    (entries_of c.args.resource.now) c.requires.read c.in_ok-override_with.ensures.ok c.in_ok-told.ensures
