-- A report that was given.
use Rattle.std.proofs.Common.{◌≡◌, ◌∙◌, ℕ, Bool, List, string_bytes, subst}
use Rattle.fluent_ast.specs.Tree.{Text}
use Rattle.fluent_c_handles.specs.Answers.{Given}
use Rattle.fluent_c_check.specs.Checks.{Finds, GivesReport}
use Rattle.fluent_c_check.specs.Inside.Handed.{ReportsOn, handed_view, wanted_by}
use Rattle.fluent_c_check.specs.declared.handed.Bytes.{Bytes}
use Rattle.fluent_c_check.specs.declared.report.Report.{Report}

pub gives : (bytes : Bytes) (json : Bool) (report : Report) (shown : Text) (out out' : List ℕ) (n : ℕ)
    → shown ≡ string_bytes report.text → Given shown out out' n → ReportsOn bytes json report
    → GivesReport (wanted_by bytes) json out out' (record { text = n; errors = report.counts.errors; warnings = report.counts.warnings; is_clean = report.is_clean })
gives bytes json report shown out out' n is given r = record {
  lists = handed_view r.handed;
  handed = r.is.hands;
  found = r.tells.found;
  finds = subst (λ language. Finds language (handed_view r.handed) r.tells.found) r.is.language r.tells.finds;
  given = subst (λ t. Given t out out' n) (is ∙ r.tells.text) given;
  errors = r.tells.errors;
  warnings = r.tells.warnings;
  clean = r.tells.clean;
}
