use Rattle.std.proofs.Common.{rules}
use Rattle.fluent_show_cli.specs.Runs.{reader_in}
use Rattle.fluent_show_cli.proofs.Coming.{ends_unread, ends_no_memory, some_left}
use Rattle.fluent_show_cli.proofs.run.show_input.Goals as goal

pub returns-in-Err-Memory-clause-ends : goal.returns-in-Err-Memory-clause-ends
returns-in-Err-Memory-clause-ends g c =
    let left = some_left (g.R.Read.remaining (reader_in c.args.input.now)) in
    (left.0, left.1, ends_no_memory _ _ _ _ _ c.requires (search rules))

pub returns-in-Err-Reading-clause-ends : goal.returns-in-Err-Reading-clause-ends
returns-in-Err-Reading-clause-ends g c =
    let left = some_left (g.R.Read.remaining (reader_in c.args.input.now)) in
    (left.0, left.1, ends_unread _ _ _ _ _ c.requires)
