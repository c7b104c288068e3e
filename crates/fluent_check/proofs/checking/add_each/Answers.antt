use mathlib.Core.Bool.{true≢false}
use Rattle.std.proofs.Common.{◌≡◌, ◌∙◌, ◌++◌, ◌&&◌, ◌∷◌, [], Bool, true, false, ap, map, subst, sym, take}
use Rattle.fluent_check.specs.Faultless.{tag_of}
use Rattle.fluent_sources.specs.Groups.{Group, group_view, loaded, groups_from, of_file}
use Rattle.fluent_check.specs.Inside.Faultless.{AreFaultlessFiles, IsFaultlessBeside}
use Rattle.fluent_check.specs.Inside.Looks.{AddsLooks}
use Rattle.fluent_sources.specs.ReadFiles.{file_view}
use Rattle.fluent_check.proofs.AllTaken.{all_more, taken}
use Rattle.fluent_check.proofs.Looking.{and_false, and_true, groups_more, looks_both, no_looks}
use Rattle.fluent_check.proofs.checking.add_each.Goals as goal
use Rattle.fluent_check.proofs.checking.add_each.Goals.{then-not-branch, else-not-branch}

pub loop-index-init : goal.loop-index-init
loop-index-init c = record { looks = no_looks c.args.settings.now c.args.findings.now; clean = λ is. tt }

pub loop-index-preserved : goal.loop-index-preserved
loop-index-preserved c =
    let settings = c.args.settings.now in
    let tag = tag_of settings.language in
    let g = group_view c.args.all.now in
    let own = c.args.all.now.own.now in
    let i = c.loop-index.index in
    let file = c.file-item.result in
    let old = c.args.findings.now in
    let more = groups_more file_view settings.grouping g own i file c.loop-index-test.true (taken file_view own i file c.loop-index-test.true c.file-item.is) in
    let one = subst (λ (h : Group). AddsLooks settings (h ∷ []) c.loop-index.findings c.add_files.new.findings c.in_ok-add_files.field-0) c.of_file-group.ensures c.in_ok-add_files.ensures.looks in
    let both = looks_both settings _ _ old c.loop-index.findings c.add_files.new.findings c.loop-index.is_clean c.in_ok-add_files.field-0 c.loop-index.invariant.looks one in
    let clean_is : c.if-not-branch.is_clean ≡ (c.loop-index.is_clean && c.in_ok-add_files.field-0) =
    elim c.if-not-branch.branch [
      | then-not-branch w ↦ w.is_clean-is ∙ (sym (and_false c.loop-index.is_clean) ∙ ap (λ b. c.loop-index.is_clean && b) (sym w.if-not-branch.true))
      | else-not-branch w ↦ w.is_clean-is ∙ (and_true c.loop-index.is_clean ∙ ap (λ b. c.loop-index.is_clean && b) (sym w.if-not-branch.false))
    ] in
    record {
      looks =
          subst (λ gs. AddsLooks settings gs old c.add_files.new.findings c.if-not-branch.is_clean) (sym more)
          (subst (λ b. AddsLooks settings (groups_from settings.grouping g 0 (map file_view (take i own)) ++ of_file settings.grouping g i (file_view file) ∷ []) old c.add_files.new.findings b) (sym clean_is) both);
      clean = λ is.
          elim c.if-not-branch.branch [
            | then-not-branch w ↦ absurd (true≢false (sym is ∙ w.is_clean-is))
            | else-not-branch w ↦
                all_more (IsFaultlessBeside tag (map file_view c.args.all.now.beside.now)) file_view own i file c.loop-index-test.true c.file-item.is
                (c.loop-index.invariant.clean (sym w.is_clean-is ∙ is))
                (subst (λ h. AreFaultlessFiles tag (loaded h)) c.of_file-group.ensures (c.in_ok-add_files.ensures.clean w.if-not-branch.false))
          ];
    }
