use Rattle.std.proofs.Common.{rules, ◌≡◌, ◌∷◌, [], refl, subst, map, None, List, Result, Global}
use Rattle.std.specs.declared.alloc.AllocError.{AllocError}
use Rattle.std.specs.declared.borrow.CowStr.{CowStr}
use Rattle.fluent_ast.specs.Tree.{Text}
use Rattle.fluent_semantics.specs.Arguments.{Map}
use Rattle.fluent_semantics.specs.Value.{Value}
use Rattle.fluent_fallback.specs.Chain.{first_with, pattern_asked, GivesOrId, bundles_of}
use Rattle.fluent_show_cli.specs.Inside.BundleView.{args_view, bundle_view}
use Rattle.fluent_show_cli.specs.Inside.Comes.{Bundle, Errors}
use Rattle.fluent_show_cli.proofs.Adding.{added_nothing}
use Rattle.fluent_show_cli.proofs.Faults.{not_ok}
use Rattle.fluent_show_cli.proofs.Taking.{given_line}
use Rattle.fluent_show_cli.proofs.show.chain_text.Goals as goal

-- what is given by a chain of these bundles
abbrev GivesOf : Text → Map (Value Text) → Result (CowStr Global) AllocError → Errors → Errors → List Bundle → Type 0
GivesOf id args result errors errors' bundles = GivesOrId id args (first_with (pattern_asked id None) (map bundle_view bundles)) result errors errors'

pub returns-clause-text : goal.returns-clause-text
returns-clause-text c =
    let bundles : bundles_of c.new.result ≡ c.args.first.now ∷ c.args.second.now ∷ [] = search rules in
    let gives = subst (GivesOf c.args.request.id.now (args_view c.in_ok-args.args) c.format_value.result c.args.errors.now c.format_value.new.errors) bundles c.format_value.ensures.text in
    rw (← c.in_ok-args.ensures) (given_line c.format_value.result _ gives.whole.text)

pub returns-clause-errors : goal.returns-clause-errors
returns-clause-errors c =
    let bundles : bundles_of c.new.result ≡ c.args.first.now ∷ c.args.second.now ∷ [] = search rules in
    let gives = subst (GivesOf c.args.request.id.now (args_view c.in_ok-args.args) c.format_value.result c.args.errors.now c.format_value.new.errors) bundles c.format_value.ensures.text in
    rw (← c.in_ok-args.ensures) (record { all = gives.whole.adds; prefix = gives.prefix })

pub returns-in_err-args-clause-errors : goal.returns-in_err-args-clause-errors
returns-in_err-args-clause-errors c = added_nothing c.from_residual.result _ c.args.errors.now.items _ (not_ok c.from_residual.result c.from_residual.ensures.0) refl
