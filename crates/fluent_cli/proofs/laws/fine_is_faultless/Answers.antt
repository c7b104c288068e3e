use Rattle.std.proofs.Common.{◌∙◌, sym, subst}
use Rattle.std.specs.Prelude.{is_some}
use Rattle.fluent_check.specs.Faultless.{AreFaultlessBy, tag_of}
use Rattle.fluent_sources.specs.Reading.{entries_read}
use Rattle.fluent_cli_words.specs.declared.request.Request.TheVariants as request
use Rattle.fluent_cli.specs.Checked.{grouping_of, status_by}
use Rattle.fluent_cli.specs.Clean.{IsFaultless, entries_in}
use Rattle.fluent_cli.specs.Inputs.{readable}
use Rattle.fluent_cli.proofs.FineRuns.{clean_by, fine_gives, well_by}
use Rattle.fluent_cli.proofs.laws.fine_is_faultless.Goals as goal

pub returns : goal.returns
returns c = λ check beside files references answer runs fine none.
    let all = readable (is_some check.translation) beside files references in
    let inputs = runs.inputs in
    let gives = fine_gives (request.Check check) inputs all.unread answer runs.gives fine in
    let checked = gives.gives in
    let found = checked.found in
    let finds = checked.finds in
    let clean = clean_by found.is_clean check.allowed.items none (well_by _ _ (sym checked.reported.status ∙ gives.fine)) in
    let tag = tag_of check.language in
    let beside_read = entries_read inputs.beside in
    record {
      unread = gives.none;
      faultless = subst (λ others. AreFaultlessBy (grouping_of check) tag others (entries_in all.files)) runs.has_read.beside.entries
          (subst (λ own. AreFaultlessBy (grouping_of check) tag beside_read own) runs.has_read.files.entries
          (subst (λ grouping. AreFaultlessBy grouping tag beside_read (entries_read inputs.sources)) finds.set.grouping
          (subst (λ language. AreFaultlessBy finds.settings.grouping (tag_of language) beside_read (entries_read inputs.sources)) finds.set.language (finds.clean clean))));
    }
