use Rattle.std.proofs.Common.{◌≡◌, ◌∙◌, List, [], ◌∷◌, map, ap, refl, rules, sym}
use Rattle.std.proofs.lemmas.Bool.{eqb-true}
use Rattle.std.proofs.lemmas.List.{nil_from_length}
use Rattle.std.proofs.lemmas.Result.{IfOk-weaker, on_err_weaker, on_ok_weaker}
use Rattle.fluent_ast.specs.View.{entry_view}
use Rattle.fluent_semantics.specs.Bundle as m
use Rattle.fluent_bundle_entries.specs.ErrorView.{error_view}
use Rattle.fluent_bundle.specs.BundleView.{bundle_parts, meant}
use Rattle.fluent_bundle.proofs.Running.{kept_as_is}
use Rattle.fluent_bundle.proofs.bundle.FluentBundle.take_resource.Goals as goal

nothing_mapped : {A B : Type 0} (f : A → B) (xs : List A) → map f xs ≡ [] → xs ≡ []
nothing_mapped f [] e = refl
nothing_mapped f (x ∷ xs) e = absurd cc

-- there are entries
pub returns-clause-empty : goal.returns-clause-empty
returns-clause-empty g c = λ none.
    let some : c.all-entries.result.now ≡ [] → ⊥ = search (rules, c.is_empty.ensures, c.if-is_empty.false) in
    absurd (some (nothing_mapped entry_view _ (c.all-entries.ensures ∙ none)))

pub returns-then-is_empty-clause-ok : goal.returns-then-is_empty-clause-ok
returns-then-is_empty-clause-ok g c =
    let b = meant g.M.MemoizerKind.category g.C.FluentType.shown g.C.FluentType.alike g.F.FluentFunction.answer g.G.FluentFormatter.formatted g.T.Transform.changed c.args.self.now in
    let none = sym c.all-entries.ensures ∙ ap (map entry_view) (nil_from_length c.all-entries.result.now (eqb-true _ 0 (sym c.is_empty.ensures ∙ c.if-is_empty.true))) in
    ap (λ es. m.after (m.add_resource es) b) (sym none)

pub returns-then-is_empty-clause-errors : goal.returns-then-is_empty-clause-errors
returns-then-is_empty-clause-errors g c =
    let b = meant g.M.MemoizerKind.category g.C.FluentType.shown g.C.FluentType.alike g.F.FluentFunction.answer g.G.FluentFormatter.formatted g.T.Transform.changed c.args.self.now in
    let none = sym c.all-entries.ensures ∙ ap (map entry_view) (nil_from_length c.all-entries.result.now (eqb-true _ 0 (sym c.is_empty.ensures ∙ c.if-is_empty.true))) in
    ap (map error_view) c.new.ensures.items ∙ ap (λ es. m.not_added es b.ids) (sym none)

pub returns-then-is_empty-clause-kept : goal.returns-then-is_empty-clause-kept
returns-then-is_empty-clause-kept g c = kept_as_is c.args.self.now

pub returns-clause-ok : goal.returns-clause-ok
unfolding bundle_parts
returns-clause-ok g c =
    let b = meant g.M.MemoizerKind.category g.C.FluentType.shown g.C.FluentType.alike g.F.FluentFunction.answer g.G.FluentFormatter.formatted g.T.Transform.changed c.args.self.now in
    on_ok_weaker c.add_entries.result
    (λ become. ap (λ ids. record b { ids = ids }) (become g.F.FluentFunction.answer ∙ ap (λ es. m.added es b.ids) c.all-entries.ensures))
    c.add_entries.ensures.after

pub returns-clause-errors : goal.returns-clause-errors
unfolding bundle_parts
returns-clause-errors g c =
    let b = meant g.M.MemoizerKind.category g.C.FluentType.shown g.C.FluentType.alike g.F.FluentFunction.answer g.G.FluentFormatter.formatted g.T.Transform.changed c.args.self.now in
    IfOk-weaker c.add_entries.result _ _ (λ left told. told g.F.FluentFunction.answer ∙ ap (λ es. m.not_added es b.ids) c.all-entries.ensures) c.add_entries.ensures.errors

pub returns-clause-err : goal.returns-clause-err
unfolding bundle_parts
returns-clause-err g c =
    let b = meant g.M.MemoizerKind.category g.C.FluentType.shown g.C.FluentType.alike g.F.FluentFunction.answer g.G.FluentFormatter.formatted g.T.Transform.changed c.args.self.now in
    on_err_weaker c.add_entries.result (λ same. ap (λ ids. record b { ids = ids }) (same g.F.FluentFunction.answer)) c.add_entries.ensures.err

pub returns-clause-kept : goal.returns-clause-kept
unfolding bundle_parts
returns-clause-kept g c = record { beside = record { locales = refl; intls = refl }; transform = refl; formatter = refl }
