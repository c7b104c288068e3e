use Rattle.std.proofs.Common.{◌≡◌, ◌∙◌, ◌++◌, ◌∷◌, [], ap, is_some, map, string_bytes, subst, sym}
use Rattle.fluent_c_handles.specs.Answers.{bundle_view, declared_view}
use Rattle.fluent_c_handles.specs.Inside.Resources.{AllFrom, AreAmong, given}
use Rattle.fluent_ast.specs.Tree.{Text}
use Rattle.fluent_semantics.specs.Arguments.{set}
use Rattle.fluent_semantics.specs.Bundle.{Bundle, a_function}
use Rattle.fluent_answers.specs.Asked.{function_of}
use Rattle.fluent_c_handles.proofs.Alike.{name_anew}
use Rattle.fluent_c_handles.proofs.Stocks.{among_declared, declared_kept, from_declared}
use Rattle.fluent_c_handles.proofs.stock.Stock.declare_new.Goals as goal

pub invariant_of-self-2 : goal.invariant_of-self-2
invariant_of-self-2 c =
    let old = c.args.self.now in
    let name = c.args.name.now in
    let b = bundle_view old.bundle in
    let items = old.declared.functions.items in
    let f = function_of c.args.function in
    let is = sym c.in_ok-override_function.ensures.ok in
    let more : c.push_reserved.new.self.items ≡ items ++ c.in_ok-copy.copy ∷ [] = c.push_reserved.ensures.items ∙ ap (λ xs. xs ++ c.in_ok-copy.copy ∷ []) c.reserve.ensures.items in
    let named = name_anew name items c.push_reserved.new.self.items c.in_ok-copy.copy c.requires more c.in_ok-copy.ensures.ok in
    record {
      from = subst (λ (x : Bundle Text). AllFrom (given old.added.items) x.ids) is (from_declared (given old.added.items) b.ids name f old.from);
      names = subst (λ (x : Bundle Text). AreAmong (map string_bytes c.push_reserved.new.self.items) x.ids) is (subst (λ ns. AreAmong ns (set name (a_function f) b.ids)) (sym named) (among_declared (map string_bytes items) b.ids old.names name f));
      shows = ap is_some c.in_ok-override_function.ensures.kept.formatter ∙ old.shows;
      changes = ap is_some c.in_ok-override_function.ensures.kept.transform ∙ old.changes;
    }

pub returns-clause-ok : goal.returns-clause-ok
returns-clause-ok c =
    let old = c.args.self.now in
    let d = declared_view old.declared in
    let items = old.declared.functions.items in
    let more : c.push_reserved.new.self.items ≡ items ++ c.in_ok-copy.copy ∷ [] = c.push_reserved.ensures.items ∙ ap (λ xs. xs ++ c.in_ok-copy.copy ∷ []) c.reserve.ensures.items in
    let named = name_anew c.args.name.now items c.push_reserved.new.self.items c.in_ok-copy.copy c.requires more c.in_ok-copy.ensures.ok in
    declared_kept d (bundle_view old.bundle) (bundle_view c.override_function.new.self) c.args.name.now (function_of c.args.function) (string_bytes old.told) (record d { functions = map string_bytes c.push_reserved.new.self.items })
    (λ i. record d { functions = named i }) c.in_ok-override_function.ensures.ok
