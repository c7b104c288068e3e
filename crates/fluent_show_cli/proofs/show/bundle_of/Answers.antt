use Rattle.std.proofs.Common.{◌≡◌, ◌∙◌, ◌++◌, append-nil, ap, map, refl, subst, sym, Err, Global}
use Rattle.std.specs.declared.vec.Vec.{Vec}
use Rattle.fluent_ast.specs.Tree.{Text}
use Rattle.fluent_resource.specs.ResourceView.{entries_of}
use Rattle.fluent_semantics.specs.Bundle.{Bundle, Call, add_resource, after, answered}
use Rattle.fluent_resolver_state.specs.Status.{reported}
use Rattle.fluent_bundle.specs.BundleView.{AnswersCall}
use Rattle.fluent_bundle.specs.declared.bundle.AddFault.{AddFault}
use Rattle.fluent_bundle.specs.declared.bundle.AddFault.TheVariants.{Overriding}
use Rattle.fluent_bundle_entries.specs.ErrorView.{error_view}
use Rattle.fluent_bundle_entries.specs.declared.errors.FluentError.{FluentError}
use Rattle.fluent_show_cli.specs.Inside.BundleView.{bundle_view}
use Rattle.fluent_show_cli.proofs.Adding.{added_all, added_by, added_nothing}
use Rattle.fluent_show_cli.proofs.Faults.{not_ok}
use Rattle.fluent_show_cli.proofs.show.bundle_of.Goals as goal

-- a call that found ids taken
met : (old new : Bundle Text) (call : Call Text) (fault : AddFault) (found : Vec FluentError Global) → fault ≡ Overriding found → AnswersCall old call new (Err fault)
    → (new ≡ after call old) × (map error_view found.items ≡ answered call old)
met old new call fault found is h =
    let answers : AnswersCall old call new (Err (Overriding found)) = subst (λ f. AnswersCall old call new (Err f)) is h in
    (answers.0, answers.1)

pub returns-in-Ok-clause-bundle : goal.returns-in-Ok-clause-bundle
returns-in-Ok-clause-bundle c = c.in-Ok.ensures.step.0 ∙ ap (after (add_resource (entries_of c.args.resource.now))) c.in_ok-bundle.ensures

pub returns-in-Err-Overriding-clause-bundle : goal.returns-in-Err-Overriding-clause-bundle
returns-in-Err-Overriding-clause-bundle c =
    let call = add_resource (entries_of c.args.resource.now) in
    (met (bundle_view c.in_ok-bundle.bundle) (bundle_view c.add_resource.new.self) call c.in-Err-Overriding.field-0 c.in-Err-Overriding.found c.in-Err-Overriding.field-0-is c.in-Err-Overriding.ensures.step).0
    ∙ ap (after call) c.in_ok-bundle.ensures

pub returns-in-Err-Overriding-clause-errors : goal.returns-in-Err-Overriding-clause-errors
returns-in-Err-Overriding-clause-errors c =
    let call = add_resource (entries_of c.args.resource.now) in
    rw c.in_ok-append-in-Err-Overriding.ensures.items
    (added_all _ _ c.args.errors.now.items c.in-Err-Overriding.found.items
    ((met (bundle_view c.in_ok-bundle.bundle) (bundle_view c.add_resource.new.self) call c.in-Err-Overriding.field-0 c.in-Err-Overriding.found c.in-Err-Overriding.field-0-is c.in-Err-Overriding.ensures.step).1
    ∙ ap (answered call) c.in_ok-bundle.ensures))

pub returns-in_err-append-in-Err-Overriding-clause-errors : goal.returns-in_err-append-in-Err-Overriding-clause-errors
returns-in_err-append-in-Err-Overriding-clause-errors c =
    let r = c.from_residual-in_err-append-in-Err-Overriding.result in
    added_nothing r _ c.args.errors.now.items c.append.new.self.items (not_ok r c.from_residual-in_err-append-in-Err-Overriding.ensures.0) c.in_err-append-in-Err-Overriding.ensures.items

pub returns-in_err-bundle-clause-errors : goal.returns-in_err-bundle-clause-errors
returns-in_err-bundle-clause-errors c = added_nothing c.from_residual.result _ c.args.errors.now.items _ (not_ok c.from_residual.result c.from_residual.ensures.0) refl

pub returns-in-Ok-clause-errors : goal.returns-in-Ok-clause-errors
returns-in-Ok-clause-errors c =
    let errors = c.args.errors.now.items in
    let none = c.in-Ok.ensures.step.1 in
    let found = ap (answered (add_resource (entries_of c.args.resource.now))) (sym c.in_ok-bundle.ensures) ∙ none in
    added_by _ _ errors errors (sym (append-nil (reported errors)) ∙ ap (λ es. reported errors ++ es) (sym found))
