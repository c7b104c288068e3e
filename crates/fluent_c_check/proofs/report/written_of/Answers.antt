use Rattle.std.proofs.Common.{◌∙◌, ◌++◌, [], map, ap, ap₂}
use Rattle.std.proofs.lemmas.Result.{IfOk-weaker}
use Rattle.fluent_sources.specs.Reading.{read_view}
use Rattle.fluent_cli_report.specs.Reported.{IsWritten}
use Rattle.fluent_cli_report.specs.declared.report.Outcome.{Outcome}
use Rattle.fluent_c_check.specs.Inside.Handed.{reads_handed}
use Rattle.fluent_c_check.specs.Inside.Manner.{TellsAll}
use Rattle.fluent_c_check.proofs.Written.{written}
use Rattle.fluent_c_check.proofs.report.written_of.Goals as goal

pub returns : goal.returns
returns c =
    let found = c.args.found.now in
    let reads = reads_handed c.args.handed.now in
    let texts = map read_view c.as_slice-2.result.now in
    let outcome : Outcome = record { findings = c.as_slice.result; is_well = found.is_clean } in
    let read = ap (map read_view) c.as_slice-2.ensures.value ∙ (c.in_ok-texts.ensures
    ∙ ap₂ (λ xs ys. xs ++ ys) c.requires.beside.texts (ap₂ (λ xs ys. xs ++ ys) c.requires.sources.texts c.requires.references.texts)) in
    IfOk-weaker c.write_report.result (IsWritten c.options_of.result texts [] outcome) (TellsAll c.args.as_json reads found)
    (λ w reports. written c.options_of.result c.args.as_json texts reads outcome found w
    c.options_of.ensures.manner c.options_of.ensures.allowed read c.as_slice.ensures.value reports) c.write_report.ensures
