-- How the words are read by a command with one more argument, or one more subcommand.
use Rattle.std.proofs.Common.{◌∙◌, ◌++◌, ◌||◌, List, [], ◌∷◌, ap₂, Result, IfOk}
use Rattle.std.proofs.lemmas.Result.{IfOk-weaker}
use Rattle.clap.specs.Built.{AddsArg}
use Rattle.clap.specs.Simple.{App, with_rule, with_subcommand}
use Rattle.clap.specs.Walk.{Rule, Text}
use Rattle.clap.specs.declared.builder.arg.Arg.{Arg}
use Rattle.clap.specs.declared.builder.command.Command.{Command}
use Rattle.fluent_cli_words.specs.Commands.{IsArgument, Reads, alone, command}

pub one_more : (old new : Command) (argument : Arg) (name : Text) (rules : List Rule) (rule : Rule)
    → Reads (alone (command name rules)) old → IsArgument rule argument → AddsArg old argument new
    → Reads (alone (command name (rules ++ rule ∷ []))) new
one_more old new argument name rules rule reads is adds = record {
  is = adds.shape is.local ∙ ap₂ with_rule reads.is is.is;
  local = adds.globals ∙ ap₂ (λ a b. a || b) reads.local is.local;
}

module _ {E F : Type 0} (result : Result Command E) (command : Command) (app : App) where
  pub with_sub : (subcommand : Result Command F) (added : App)
      → IfOk result (λ c. (app added : App) → Reads app command → IfOk subcommand (Reads added) → Reads (with_subcommand app added.top) c)
      → Reads app command → IfOk subcommand (Reads added) → IfOk result (Reads (with_subcommand app added.top))
  with_sub subcommand added adds reads is = IfOk-weaker result _ _ (λ c h. h app added reads is) adds
