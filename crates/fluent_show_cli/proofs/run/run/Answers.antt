use Rattle.std.proofs.Common.{map, string_bytes}
use Rattle.fluent_show_cli.specs.Program.{run_of}
use Rattle.fluent_show_cli.proofs.Began.{stopped, worked}
use Rattle.fluent_show_cli.proofs.Coming.{never_stopped}
use Rattle.fluent_show_cli.proofs.run.run.Goals as goal

pub returns-clause-stopped : goal.returns-clause-stopped
returns-clause-stopped g c three =
    let words = map string_bytes c.args.words.now in
    let ran = c.run_with.ensures.ran in
    stopped (run_of words ran.0) _ _ _ _ _ _ _ _ _ (never_stopped words ran.0) ran.2 three

pub returns-clause-works : goal.returns-clause-works
returns-clause-works g c not =
    let words = map string_bytes c.args.words.now in
    let ran = c.run_with.ensures.ran in
    (ran.0, ran.1, worked (run_of words ran.0) _ _ _ _ _ _ _ _ _ ran.2 not)
