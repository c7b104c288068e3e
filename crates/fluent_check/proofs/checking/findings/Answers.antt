use Rattle.std.proofs.Common.{◌≡◌, ◌∙◌, ◌++◌, ap, length, map}
use Rattle.fluent_patterns.specs.Found.{found_in}
use Rattle.fluent_check.specs.Faultless.{tag_of}
use Rattle.fluent_sources.specs.Groups.{all_in, groups_of, read_group}
use Rattle.fluent_check.specs.Looks.{found_in_looks}
use Rattle.fluent_sources.specs.ReadFiles.{file_view, files_read}
use Rattle.fluent_sources.specs.Unreadable.{unreadable}
use Rattle.fluent_check.proofs.FaultlessGroups.{faultless_by}
use Rattle.fluent_check.proofs.checking.findings.Goals as goal

pub returns-clause-found : goal.returns-clause-found
returns-clause-found c =
    let settings = c.args.settings.now in
    let g = read_group c.args.beside.now c.args.sources.now c.args.references.now in
    let looks = c.in_ok-is_clean.ensures.looks in
    let junk : found_in c.in_ok-findings.findings ≡ unreadable (all_in g) =
    c.in_ok-findings.ensures ∙ ap unreadable (ap (map file_view) c.as_slice.ensures.value ∙ c.in_ok-files.ensures.all) in
    record {
      looks = looks.looks;
      groups = looks.groups ∙ ap (groups_of settings.grouping) (c.of_all-all.ensures ∙ c.in_ok-files.ensures.parts);
      right = looks.right;
      findings = looks.found_is ∙ ap (λ l. l ++ found_in_looks settings looks.looks) junk;
      clean = looks.clean_is;
    }

pub returns-clause-clean : goal.returns-clause-clean
returns-clause-clean c = λ is.
    let beside = c.args.beside.now in
    let g = read_group beside c.args.sources.now c.args.references.now in
    faultless_by (tag_of c.args.settings.now.language) beside c.args.sources.now 0 (length (files_read 0 beside)) c.args.settings.now.grouping _ g.references
    (c.of_all-all.ensures ∙ c.in_ok-files.ensures.parts) (c.in_ok-is_clean.ensures.clean is)
