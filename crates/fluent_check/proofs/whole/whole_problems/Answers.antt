use Rattle.std.proofs.Common.{◌≡◌, ◌∙◌, [], Vec, Global, ap, refl, sym}
use Rattle.std.specs.List.{cons_option, filter_map}
use Rattle.std.specs.Option.{option_map}
use Rattle.fluent_places.specs.Places.{place_view}
use Rattle.fluent_patterns.specs.Found.{problem_view}
use Rattle.fluent_check.specs.Bundles.{bundle_view}
use Rattle.fluent_check.specs.Tried.{is_shown}
use Rattle.fluent_check.specs.Whole.{whole_of, wholes}
use Rattle.fluent_check.specs.declared.whole.Whole.{Whole}
use Rattle.fluent_check.proofs.Walked.{one_more}
use Rattle.fluent_check.proofs.Wholes.{added, each, unless}
use Rattle.fluent_check.proofs.whole.whole_problems.Goals as goal
use Rattle.fluent_check.proofs.whole.whole_problems.Goals.{in-Some+in_ok-push, in_default}

pub loop-linted-preserved : goal.loop-linted-preserved
loop-linted-preserved c =
    let says = whole_of (is_shown (bundle_view c.args.bundle.now)) c.all_lead_on-alone.result in
    let old = c.loop-linted.found.items in
    one_more (filter_map says) (λ x. cons_option (says x) []) (each says) _ _ _ _ _ _ c.loop-linted-test.true c.linted-item.is c.loop-linted.invariant
    (elim c.match-branch-2.branch [
      | in-Some+in_ok-push w ↦
          ap (λ (v : Vec Whole Global). wholes v.items) w.found-is
          ∙ added (place_view c.linted-item.result.place) _ old _ _ w.in_ok-push.ensures.items refl (sym (ap (option_map problem_view) w.in-Some.is) ∙ c.in_ok-problem.ensures)
      | in_default w ↦
          ap (λ (v : Vec Whole Global). wholes v.items) w.found-is
          ∙ unless (place_view c.linted-item.result.place) _ old (sym (ap (option_map problem_view) w.in_default.is) ∙ c.in_ok-problem.ensures)
    ])
