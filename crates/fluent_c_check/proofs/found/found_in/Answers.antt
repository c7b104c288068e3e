use Rattle.std.proofs.Common.{Ok, Err, IfOk, IsTrue, false, ◌++◌, ◌∙◌, map, refl, ap, ap₂, subst}
use Rattle.std.specs.declared.result.Result.{Result}
use Rattle.fluent_check.specs.Faultless.{AreFaultless, AreFaultlessBy, tag_of}
use Rattle.fluent_sources.specs.Groups.{read_group}
use Rattle.fluent_check.specs.Looks.{IsFound}
use Rattle.fluent_sources.specs.Reading.{entries_read}
use Rattle.fluent_sources.specs.declared.groups.Grouping.TheVariants.{Together}
use Rattle.fluent_check.specs.declared.checking.Settings.{Settings}
use Rattle.fluent_answers.specs.ArgumentView.{argument_view}
use Rattle.fluent_places.specs.Asked.{texts}
use Rattle.fluent_c_check.specs.Checks.{names_of}
use Rattle.fluent_c_check.specs.Inside.Handed.{FindsIn, handed_view}
use Rattle.fluent_c_check.proofs.Grouped.{grouped}
use Rattle.fluent_c_check.proofs.found.found_in.Goals as goal

both : {X E : Type 0} (r : Result X E) (P Q R : X → Type 0) → ((x : X) → P x → Q x → R x) → IfOk r P → IfOk r Q → IfOk r R
both (Ok x) P Q R all p q = all x p q
both (Err e) P Q R all p q = tt

pub returns : goal.returns
returns c =
    let inputs = c.args.inputs.now in
    let lists = handed_view c.args.handed.now in
    let settings : Settings = record {
      language = c.language_of.result;
      grouping = Together;
      functions = c.as_slice-2.result;
      has_all_categories = false;
    } in
    let group = grouped c.files_are_of_texts.ensures lists inputs.beside inputs.sources inputs.references c.requires.beside c.requires.sources c.requires.references in
    let tag = tag_of settings.language in
    both c.findings.result (IsFound settings (read_group inputs.beside inputs.sources inputs.references))
    (λ found. IsTrue found.is_clean → AreFaultlessBy Together tag (entries_read inputs.beside) (entries_read inputs.sources))
    (FindsIn c.args.handed.now)
    (λ found is clean. record {
      settings = settings;
      set = record {
        language = c.language_of.ensures;
        functions = ap texts c.as_slice-2.ensures.value ∙ (c.in_ok-functions.ensures ∙ ap (λ rs. names_of (map argument_view rs)) c.as_slice.ensures.value);
        grouping = refl;
        all_categories = refl;
      };
      is = subst (λ g. IsFound settings g found) group is;
      clean = λ yes. subst (λ files. AreFaultless tag files) (ap₂ (λ xs ys. xs ++ ys) c.requires.beside.entries c.requires.sources.entries) (clean yes);
    }) c.findings.ensures.found c.findings.ensures.clean
