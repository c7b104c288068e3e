use Rattle.std.proofs.Common.{◌∙◌, Err, ap, codes, is_some, map, string_bytes, subst}
use Rattle.fluent_semantics.specs.Arguments.{get}
use Rattle.fluent_semantics.specs.Bundle.{add_builtins}
use Rattle.fluent_semantics.specs.Errors.{overriding, function_kind}
use Rattle.fluent_bundle.specs.BundleView.{AnswersCall}
use Rattle.fluent_bundle.specs.declared.bundle.AddFault.TheVariants as add
use Rattle.fluent_c_handles.specs.Answers.{bundle_view, declared_view}
use Rattle.fluent_c_handles.specs.Inside.Resources.{given}
use Rattle.fluent_c_handles.proofs.Alike.{free_of, number_among, number_from, taken_of}
use Rattle.fluent_c_handles.proofs.Stocks.{builtins_kept, builtins_left, taken_kept}
use Rattle.fluent_c_handles.proofs.stock.Stock.add_builtins.Goals as goal

pub invariant_of-self : goal.invariant_of-self
invariant_of-self c =
    let old = c.args.self.now in
    record {
      from = number_from (bundle_view old.bundle) (bundle_view c.add_builtins.new.self) (given old.added.items) c.add_builtins.result c.add_builtins.ensures.step old.from;
      names = number_among (bundle_view old.bundle) (bundle_view c.add_builtins.new.self) (map string_bytes old.declared.functions.items) c.add_builtins.result c.add_builtins.ensures.step old.names;
      shows = ap is_some c.add_builtins.ensures.kept.formatter ∙ old.shows;
      changes = ap is_some c.add_builtins.ensures.kept.transform ∙ old.changes;
    }

pub returns-in-Ok-clause-ok : goal.returns-in-Ok-clause-ok
returns-in-Ok-clause-ok c =
    let old = c.args.self.now in
    let b = bundle_view old.bundle in
    let told = string_bytes old.told in (
      taken_kept (codes "NUMBER") (declared_view old.declared) b told ∙ free_of (overriding function_kind (codes "NUMBER")) (is_some (get (codes "NUMBER") b.ids)) c.in-Ok.ensures.step.1,
      builtins_kept (declared_view old.declared) b (bundle_view c.add_builtins.new.self) told c.in-Ok.ensures.step.0,
    )

pub returns-in-Err-Overriding-clause-ok : goal.returns-in-Err-Overriding-clause-ok
returns-in-Err-Overriding-clause-ok c =
    let old = c.args.self.now in
    let b = bundle_view old.bundle in
    let told = string_bytes old.told in
    let step : AnswersCall b add_builtins (bundle_view c.add_builtins.new.self) (Err (add.Overriding c.in-Err-Overriding.field-0-0)) =
    subst (AnswersCall b add_builtins (bundle_view c.add_builtins.new.self)) (c.in-Err-Overriding.is ∙ ap Err c.in-Err-Overriding.field-0-is) c.add_builtins.ensures.step in
    let taken = taken_of (overriding function_kind (codes "NUMBER")) (is_some (get (codes "NUMBER") b.ids)) step.2 in (
      builtins_left (declared_view old.declared) b (bundle_view c.add_builtins.new.self) told step.0 taken,
      taken_kept (codes "NUMBER") (declared_view old.declared) b told ∙ taken,
    )
