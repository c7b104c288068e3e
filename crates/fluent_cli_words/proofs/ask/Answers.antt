use Rattle.fluent_cli_words.specs.Commands.{program}
use Rattle.fluent_cli_words.proofs.Asking.{asks_fault, asks_none, asks_some, program_is_free, program_is_simple}
use Rattle.fluent_cli_words.proofs.ask.Goals as goal

pub returns-in-Some : goal.returns-in-Some
returns-in-Some c =
    asks_some program _ _ _ _ _ _ c.in_ok-program.ensures.is program_is_simple program_is_free c.in-Ok.ensures.kinds
    c.in-Ok.ensures.matches c.in-Some.ensures.name c.in-Some.ensures.rows c.asked_for.ensures

pub returns : goal.returns
returns c =
    asks_none program _ _ _ _ c.in_ok-program.ensures.is program_is_simple program_is_free c.in-Ok.ensures.kinds
    c.in-Ok.ensures.matches c.in-None.ensures.name c.refused.ensures

pub returns-in-Err : goal.returns-in-Err
returns-in-Err c =
    asks_fault program _ _ _ c.in-Err.error c.in_ok-program.ensures.is program_is_free c.in-Err.ensures.kinds c.said.ensures
