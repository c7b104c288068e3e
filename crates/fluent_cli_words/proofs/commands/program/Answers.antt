use Rattle.std.proofs.Common.{IfOk}
use Rattle.fluent_cli_words.specs.Commands.{Reads, alone, check_command, list_command, show_command}
use Rattle.fluent_cli_words.proofs.Reading.{with_sub}
use Rattle.fluent_cli_words.proofs.commands.program.Goals as goal

pub returns : goal.returns
returns c =
    let check : IfOk c.command.result (Reads (alone check_command)) = c.command.ensures in
    let show : IfOk c.command-2.result (Reads (alone show_command)) = c.command-2.ensures in
    let list : IfOk c.command-3.result (Reads (alone list_command)) = c.command-3.ensures in
    let checks = c.in_ok-program-2.ensures _ (alone check_command) c.in_ok-program.ensures check in
    let shows = c.in_ok-program-3.ensures _ (alone show_command) checks show in
    with_sub _ _ _ _ (alone list_command) c.with_subcommand-3.ensures shows list
