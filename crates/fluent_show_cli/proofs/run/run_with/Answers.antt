use Rattle.std.proofs.Common.{rules, ◌≡◌, map, string_bytes, subst}
use Rattle.fluent_text.specs.declared.counting.WriteFault.TheVariants.{Memory}
use Rattle.fluent_resolver_state.specs.Status.{reported}
use Rattle.fluent_show_cli.specs.Runs.{ending_view, ReportsRun, outlet}
use Rattle.fluent_show_cli.proofs.Began.{reports_said, reports_begun}
use Rattle.fluent_show_cli.proofs.Coming.{none_asked, rule_asked}
use Rattle.fluent_show_cli.proofs.run.run_with.Goals as goal

pub returns-in-Ok-clause-ran : goal.returns-in-Ok-clause-ran
returns-in-Ok-clause-ran g c =
    let ends = c.attempt-ending.ensures.ends in
    let err = outlet g.E.Write.contents c.args.err.now in
    let err' = outlet g.E.Write.contents c.report.new.err in
    let ending = ending_view c.attempt-ending.result in (
      ends.0,
      ends.1,
      record {
        ending = ending;
        ends = ends.2;
        usage = λ e. c.attempt-ending.ensures.usage (none_asked (map string_bytes c.args.words.now) ends.0 e);
        rule = λ e. c.attempt-ending.ensures.rule (rule_asked (map string_bytes c.args.words.now) ends.0 e);
        reads = c.attempt-ending.ensures.reads;
        reports = subst (λ es. ReportsRun (reported es) ending err err' c.status.result) c.as_slice.ensures.value
            (reports_said c.report.result (reported c.as_slice.result.now) ending (ending_view c.in-Ok.ending) c.in-Ok.ending err err' c.status.result c.in-Ok.is c.status.ensures c.in-Ok.ensures.says c.report.ensures.fault);
      },
    )

pub returns-in-Err-clause-ran : goal.returns-in-Err-clause-ran
returns-in-Err-clause-ran g c =
    let ends = c.attempt-ending.ensures.ends in
    let err = outlet g.E.Write.contents c.args.err.now in
    let err' = outlet g.E.Write.contents c.report.new.err in
    let ending = ending_view c.attempt-ending.result in
    let not : ¬ (c.in-Err.field-0 ≡ Memory) = search rules in (
      ends.0,
      ends.1,
      record {
        ending = ending;
        ends = ends.2;
        usage = λ e. c.attempt-ending.ensures.usage (none_asked (map string_bytes c.args.words.now) ends.0 e);
        rule = λ e. c.attempt-ending.ensures.rule (rule_asked (map string_bytes c.args.words.now) ends.0 e);
        reads = c.attempt-ending.ensures.reads;
        reports = subst (λ es. ReportsRun (reported es) ending err err' 3) c.as_slice.ensures.value
            (reports_begun c.report.result (reported c.as_slice.result.now) ending c.in-Err.field-0 err err' c.in-Err.is not c.in-Err.ensures.prefix c.report.ensures.fault);
      },
    )

pub returns-in-Ok-clause-bounded : goal.returns-in-Ok-clause-bounded
returns-in-Ok-clause-bounded g c = c.attempt-ending.ensures.bounded

pub returns-in-Err-clause-bounded : goal.returns-in-Err-clause-bounded
returns-in-Err-clause-bounded g c = c.attempt-ending.ensures.bounded
