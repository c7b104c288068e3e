use Rattle.std.proofs.Common.{◌∙◌, ap, is_some, map, string_bytes, sym}
use Rattle.fluent_c_handles.specs.Answers.{bundle_view, declared_view}
use Rattle.fluent_c_handles.specs.Inside.Resources.{given}
use Rattle.fluent_answers.specs.Asked.{function_of}
use Rattle.fluent_c_handles.proofs.Alike.{again_among, again_from, name_again}
use Rattle.fluent_c_handles.proofs.Stocks.{declared_kept}
use Rattle.fluent_c_handles.proofs.stock.Stock.declare_again.Goals as goal

pub invariant_of-self : goal.invariant_of-self
invariant_of-self c =
    let old = c.args.self.now in
    let name = c.args.name.now in
    let b = bundle_view old.bundle in
    let names = map string_bytes old.declared.functions.items in
    let f = function_of c.args.function in
    let b' = bundle_view c.override_function.new.self in
    record {
      from = again_from b b' name f (given old.added.items) c.override_function.result c.override_function.ensures.ok c.override_function.ensures.err old.from;
      names = again_among b b' name f names c.override_function.result c.override_function.ensures.ok c.override_function.ensures.err (name_again name old.declared.functions.items c.requires) old.names;
      shows = ap is_some c.override_function.ensures.kept.formatter ∙ old.shows;
      changes = ap is_some c.override_function.ensures.kept.transform ∙ old.changes;
    }

pub returns-clause-ok : goal.returns-clause-ok
returns-clause-ok c =
    let old = c.args.self.now in
    let d = declared_view old.declared in
    declared_kept d (bundle_view old.bundle) (bundle_view c.override_function.new.self) c.args.name.now (function_of c.args.function) (string_bytes old.told) d
    (λ i. record d { functions = sym (name_again c.args.name.now old.declared.functions.items c.requires) i }) c.in_ok-override_function.ensures.ok
