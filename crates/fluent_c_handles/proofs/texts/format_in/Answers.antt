use Rattle.std.proofs.Common.{rules, ◌≡◌, ◌∙◌, [], None, refl, sym}
use Rattle.fluent_c_handles.specs.Answers.{bundle_view}
use Rattle.fluent_c_handles.proofs.Giving.{gives_in, no_bytes, no_length, not_read_by, not_shown_by, not_there_by}
use Rattle.fluent_c_handles.proofs.texts.format_in.Goals as goal

pub returns-then-is_empty-clause-ok : goal.returns-then-is_empty-clause-ok
returns-then-is_empty-clause-ok c =
    let none : c.args.args.now ≡ [] = no_length _ (sym c.is_empty.ensures ∙ c.if-is_empty.true) in
    gives_in (bundle_view c.args.bundle.now) c.args.id.now c.args.name.now c.args.args.now (c.in-Ok-Ok.ensures.cases.1, c.in-Ok-Ok.ensures'.cases.1)
    c.in-Ok-Ok.id.now c.in-Ok-Ok.name.now c.in-Ok-Ok.ensures.cases.0 c.in-Ok-Ok.ensures'.cases.0 [] (no_bytes _ none) c.args.form None refl _ _ _ _ c.format_with.result c.format_with.ensures.ok

pub returns-then-is_empty-clause-err : goal.returns-then-is_empty-clause-err
returns-then-is_empty-clause-err c =
    let none : c.args.args.now ≡ [] = no_length _ (sym c.is_empty.ensures ∙ c.if-is_empty.true) in
    not_shown_by (bundle_view c.args.bundle.now) c.args.id.now c.args.name.now c.args.args.now (c.in-Ok-Ok.ensures.cases.1, c.in-Ok-Ok.ensures'.cases.1)
    c.in-Ok-Ok.id.now c.in-Ok-Ok.name.now c.in-Ok-Ok.ensures.cases.0 c.in-Ok-Ok.ensures'.cases.0 [] (no_bytes _ none) c.format_with.result c.format_with.ensures.err

pub returns-in-Err-clause-err : goal.returns-in-Err-clause-err
returns-in-Err-clause-err c =
    not_read_by (bundle_view c.args.bundle.now) c.args.id.now c.args.name.now c.args.args.now (c.in-Ok-Ok.ensures.cases.1, c.in-Ok-Ok.ensures'.cases.1)
    c.in-Ok-Ok.id.now c.in-Ok-Ok.name.now c.in-Ok-Ok.ensures.cases.0 c.in-Ok-Ok.ensures'.cases.0 c.in-Err.fault (search (rules, c.if-not-is_there.false)) c.in-Err.ensures.err

pub returns-then-not-is_there-clause-err : goal.returns-then-not-is_there-clause-err
returns-then-not-is_there-clause-err c =
    not_there_by (bundle_view c.args.bundle.now) c.args.id.now c.args.name.now c.args.args.now (c.in-Ok-Ok.ensures.cases.1, c.in-Ok-Ok.ensures'.cases.1)
    c.in-Ok-Ok.id.now c.in-Ok-Ok.name.now c.in-Ok-Ok.ensures.cases.0 c.in-Ok-Ok.ensures'.cases.0 (search (rules, c.if-not-is_there.true))

pub returns-in-Ok-clause-ok : goal.returns-in-Ok-clause-ok
returns-in-Ok-clause-ok c =
    gives_in (bundle_view c.args.bundle.now) c.args.id.now c.args.name.now c.args.args.now (c.in-Ok-Ok.ensures.cases.1, c.in-Ok-Ok.ensures'.cases.1)
    c.in-Ok-Ok.id.now c.in-Ok-Ok.name.now c.in-Ok-Ok.ensures.cases.0 c.in-Ok-Ok.ensures'.cases.0 c.in-Ok.ensures.ok.all c.in-Ok.ensures.ok.read c.args.form _ c.in-Ok.ensures.ok.are _ _ _ _ c.format_with-in-Ok.result c.format_with-in-Ok.ensures.ok

pub returns-in-Ok-clause-err : goal.returns-in-Ok-clause-err
returns-in-Ok-clause-err c =
    not_shown_by (bundle_view c.args.bundle.now) c.args.id.now c.args.name.now c.args.args.now (c.in-Ok-Ok.ensures.cases.1, c.in-Ok-Ok.ensures'.cases.1)
    c.in-Ok-Ok.id.now c.in-Ok-Ok.name.now c.in-Ok-Ok.ensures.cases.0 c.in-Ok-Ok.ensures'.cases.0 c.in-Ok.ensures.ok.all c.in-Ok.ensures.ok.read c.format_with-in-Ok.result c.format_with-in-Ok.ensures.err
