use Rattle.std.proofs.Common.{◌∙◌, ap}
use Rattle.clap.specs.Matches.{found_of}
use Rattle.fluent_cli_words.specs.Given.{are_words}
use Rattle.fluent_cli_words.proofs.Given.{source-rows}
use Rattle.fluent_cli_words.proofs.values.is_given.Goals as goal

pub returns : goal.returns
returns c =
    c.are_words.ensures ∙ ap are_words (c.value_source.ensures ∙ source-rows (found_of c.args.matches.now) c.args.id.now)
