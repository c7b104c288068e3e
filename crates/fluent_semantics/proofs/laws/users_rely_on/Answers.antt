use Rattle.fluent_semantics.specs.Meaning.{run, substituted, within_budget, by_substitution}
use Rattle.fluent_semantics.proofs.Added.{means_one_thing, adding_keeps, last_wins, cut_adding, cut_errors, cut_overriding}
use Rattle.fluent_semantics.proofs.Answers.{none_left, none_right, error_left, error_right, term_same, run_once}
use Rattle.fluent_semantics.proofs.Alike.{alike_same}
use Rattle.fluent_semantics.proofs.laws.users_rely_on.Goals as goal
use Rattle.std.proofs.Common.{ap}

pub returns : goal.returns
returns c s = record {
  one_thing = means_one_thing;
  adding = adding_keeps;
  overriding = last_wins;
  cuts = record { adding = cut_adding; errors = cut_errors; overriding = cut_overriding };
  values = record { none_left = none_left; none_right = none_right; error_left = error_left; error_right = error_right };
  terms = record {
    budgeted = λ b env env' path t a call budget h. ap (λ m. m budget) (term_same within_budget b (run b) env env' path t a call h);
    substituted = λ b n env env' path t a call h. term_same by_substitution b (substituted b n) env env' path t a call h;
  };
  reaches_limit = run_once;
  alike = alike_same;
}
