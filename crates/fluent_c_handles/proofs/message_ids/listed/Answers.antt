use Rattle.std.proofs.Common.{◌≡◌, List, [], ◌∷◌, map, IfOk, string_bytes, refl, ap, sym, subst, ◌∙◌}
use Rattle.std.proofs.lemmas.List.{at_drop_all}
use Rattle.std.specs.Borrow.{Bor}
use Rattle.fluent_ast.specs.Tree.{Text}
use Rattle.fluent_c_handles.specs.Answers.{bundle_view}
use Rattle.fluent_c_handles.specs.Inside.Resources.{given}
use Rattle.fluent_c_handles.specs.declared.message_ids.Added.{Added}
use Rattle.fluent_c_handles.specs.Inside.Gathered.{gathered, seen, texts_of, with_resources}
use Rattle.fluent_c_handles.specs.Calls.Finding.{id_lines, names_message}
use Rattle.fluent_c_handles.proofs.Gathered.{all_gathered}
use Rattle.fluent_c_handles.proofs.Ordered.{ids_rise}
use Rattle.fluent_c_handles.proofs.message_ids.listed.Goals as goal

texts_seen : (ids : List (Bor Text)) → texts_of ids ≡ map (λ e. e.0) (seen ids)
texts_seen [] = refl
texts_seen (id ∷ ids) = ap (λ texts. id.now ∷ texts) (texts_seen ids)

pub returns : goal.returns
returns c =
    let bundle = c.args.bundle.now in
    let ids = c.loop-added.ids in
    let all = sym (at_drop_all (λ (all : List Added). with_resources (names_message (bundle_view bundle)) (given all) (gathered ids))
    c.args.resources.now c.loop-added.added-index c.loop-added-test.false)
    ∙ c.loop-added.invariant in
    let same = texts_seen ids.keys ∙ ap (map (λ e. e.0)) all
    ∙ all_gathered (bundle_view bundle) (ids_rise bundle) (given c.args.resources.now) c.requires in
    subst (λ texts. IfOk c.lines.result (λ text. string_bytes text ≡ id_lines texts)) same c.lines.ensures
