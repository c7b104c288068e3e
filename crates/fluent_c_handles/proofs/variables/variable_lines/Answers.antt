use Rattle.std.proofs.Common.{[], subst}
use Rattle.std.proofs.lemmas.Result.{IfOk-weaker}
use Rattle.fluent_places.specs.Asked.{texts}
use Rattle.fluent_places.specs.Places.{place_view}
use Rattle.fluent_c_handles.specs.Answers.{bundle_view, declared_view}
use Rattle.fluent_c_handles.specs.Inside.Gathered.{HaveSame, texts_of}
use Rattle.fluent_c_handles.proofs.Asked.{lists_asked}
use Rattle.fluent_c_handles.proofs.variables.variable_lines.Goals as goal

pub returns : goal.returns
returns c =
    let stock = c.args.stock.now in
    let names = c.in_ok-names.names.keys in
    let same = subst (λ l. HaveSame (texts_of names) (texts l)) c.as_slice.ensures.value c.in_ok-names.ensures.same in
    IfOk-weaker c.lines.result _ _
    (λ t is. lists_asked [] (declared_view stock.declared) (bundle_view stock.bundle) (place_view c.args.place.now) _ (texts_of names) _ c.in_ok-asked.ensures.asked same c.in_ok-names.ensures.rise is)
    c.lines.ensures
