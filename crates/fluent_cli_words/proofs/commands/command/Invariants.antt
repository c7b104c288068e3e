use Rattle.std.proofs.Common.{map, take}
use Rattle.fluent_cli_words.specs.Commands.{Reads, alone, command, rule_of_row}
use Rattle.fluent_cli_words.proofs.commands.command.Given as goal

abbrev pub invariant-loop-row : goal.invariant-loop-row
invariant-loop-row l = Reads (alone (command l.fn.table.name.now (map rule_of_row (take l.row-index l.row-items)))) l.command
