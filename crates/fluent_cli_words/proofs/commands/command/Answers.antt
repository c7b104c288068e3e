use Rattle.std.proofs.Common.{sym, subst}
use Rattle.std.proofs.lemmas.List.{map_more}
use Rattle.fluent_cli_words.specs.Commands.{Reads, alone, command, rule_of_row}
use Rattle.fluent_cli_words.proofs.Reading.{one_more}
use Rattle.fluent_cli_words.proofs.commands.command.Goals as goal

pub loop-row-preserved : goal.loop-row-preserved
loop-row-preserved c =
    subst (λ rules. Reads (alone (command c.args.table.now.name.now rules)) c.in_ok-command.command)
    (sym (map_more rule_of_row c.args.table.now.rows.now c.loop-row.row-index _ c.loop-row-test.true))
    (one_more _ _ _ _ _ _ c.loop-row.invariant c.argument.ensures c.in_ok-command.ensures)
