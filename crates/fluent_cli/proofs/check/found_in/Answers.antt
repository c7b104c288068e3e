use Rattle.std.proofs.Common.{Ok, Err, IfOk, IsTrue, refl}
use Rattle.std.specs.declared.result.Result.{Result}
use Rattle.fluent_check.specs.Faultless.{AreFaultlessBy, tag_of}
use Rattle.fluent_sources.specs.Groups.{read_group}
use Rattle.fluent_check.specs.Looks.{IsFound}
use Rattle.fluent_sources.specs.Reading.{entries_read}
use Rattle.fluent_check.specs.declared.checking.Settings.{Settings}
use Rattle.fluent_cli.specs.Checked.{FindsIn}
use Rattle.fluent_cli.proofs.check.found_in.Goals as goal

both : {X E : Type 0} (r : Result X E) (P Q R : X → Type 0) → ((x : X) → P x → Q x → R x) → IfOk r P → IfOk r Q → IfOk r R
both (Ok x) P Q R all p q = all x p q
both (Err e) P Q R all p q = tt

pub returns : goal.returns
returns c =
    let request = c.args.request.now in
    let inputs = c.args.inputs.now in
    let settings : Settings = record {
      language = request.language;
      grouping = c.grouping_of.result;
      functions = c.as_slice.result;
      has_all_categories = request.has_all_categories;
    } in
    both c.findings.result (IsFound settings (read_group inputs.beside inputs.sources inputs.references))
    (λ found. IsTrue found.is_clean → AreFaultlessBy settings.grouping (tag_of settings.language) (entries_read inputs.beside) (entries_read inputs.sources))
    (FindsIn request inputs)
    (λ found is clean. record {
      settings = settings;
      set = record { language = refl; grouping = c.grouping_of.ensures; functions = c.as_slice.ensures.value; all_categories = refl };
      is = is;
      clean = clean;
    }) c.findings.ensures.found c.findings.ensures.clean
