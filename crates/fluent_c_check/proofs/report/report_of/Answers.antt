use Rattle.std.proofs.Common.{refl}
use Rattle.fluent_c_check.proofs.report.report_of.Goals as goal

pub returns : goal.returns
returns c = record {
  found = c.in_ok-found.found;
  finds = c.in_ok-found.ensures;
  text = c.in_ok-written.ensures.text;
  errors = c.in_ok-written.ensures.errors;
  warnings = c.in_ok-written.ensures.warnings;
  clean = refl;
}
