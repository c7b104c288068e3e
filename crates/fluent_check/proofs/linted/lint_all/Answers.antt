use Rattle.std.proofs.Common.{◌≡◌, ◌∙◌, List, ap, sym}
use Rattle.fluent_ast.specs.Tree.{Entry}
use Rattle.fluent_places.specs.Places.{views}
use Rattle.fluent_check.specs.Bundles.{bundle_view}
use Rattle.fluent_sources.specs.Groups.{entries_loaded, group_view}
use Rattle.fluent_check.specs.Linted.{is_none}
use Rattle.fluent_check.specs.Tried.{is_shown}
use Rattle.fluent_check.specs.Whole.{whole_problems}
use Rattle.fluent_check.proofs.NoneFails.{are_linted, none_fails}
use Rattle.fluent_check.proofs.linted.lint_all.Goals as goal

pub returns-clause-linted : goal.returns-clause-linted
returns-clause-linted c =
    let b = bundle_view c.args.bundle.now in
    let files = entries_loaded (group_view c.args.group.now) in
    record {
      list = c.in_ok-list.list.items;
      are = are_linted b files (views c.deref.result.now) c.placeable_limit.result c.in_ok-list.list.items c.placeable_limit.ensures (ap views c.deref.ensures.value ∙ c.in_ok-places.ensures) c.in_ok-list.ensures;
      problems = c.in_ok-problems.ensures ∙ ap (whole_problems (is_shown b)) c.as_slice-findings.ensures.value;
      clean = c.is_none-is_clean.ensures ∙ ap is_none c.as_slice-findings.ensures.value;
    }

pub returns-clause-clean : goal.returns-clause-clean
returns-clause-clean c = λ yes.
    let b = bundle_view c.args.bundle.now in
    let files = entries_loaded (group_view c.args.group.now) in
    none_fails b files c.in_ok-list.list.items _ c.fine_is_written.ensures (c.is_none-is_clean.ensures ∙ ap is_none c.as_slice-findings.ensures.value) yes
    (are_linted b files (views c.deref.result.now) c.placeable_limit.result c.in_ok-list.list.items c.placeable_limit.ensures (ap views c.deref.ensures.value ∙ c.in_ok-places.ensures) c.in_ok-list.ensures)
