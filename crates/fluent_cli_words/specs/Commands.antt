-- The commands of the program, as `clap` reads words by them: `matches_of`, `subcommand_of` and `fault_of` say what it makes of
-- words.
use Rattle.std.specs.Prelude.{◌≡◌, true, false, List, [], ◌∷◌, Some, codes, map}
use Rattle.clap.specs.Lexer.{usize_max}
use Rattle.clap.specs.Walk.{Rule, Text, rule_of}
use Rattle.clap.specs.Simple.{App, Shape, app_of, new_rule, new_shape, with_subcommand}
use Rattle.clap.specs.declared.builder.action.ArgAction.TheVariants.{Append, SetTrue}
use Rattle.clap.specs.declared.builder.arg.Arg.{Arg}
use Rattle.clap.specs.declared.builder.command.Command.{Command}
use Rattle.clap.specs.declared.builder.command.Command.TheViews.{out-Command as fields_of}
use Rattle.fluent_cli_words.specs.declared.commands.Form.{Form}
use Rattle.fluent_cli_words.specs.declared.commands.Form.TheVariants as form
use Rattle.fluent_cli_words.specs.declared.commands.Row.{Row}
use Rattle.fluent_cli_words.specs.declared.commands.Table.{Table}

-- ---- arguments

-- an option with a value
abbrev pub option : Text → Rule
option name = record (new_rule name) { long = Some name; value_names = 1 }

-- one that may be given again
abbrev pub repeated_option : Text → Rule
repeated_option name = record (option name) { action = Some Append }

-- an option without a value
abbrev pub flag : Text → Rule
flag name = record (new_rule name) { long = Some name; action = Some SetTrue }

-- a word that has to be there
abbrev pub one_word : Text → Rule
one_word name = record (new_rule name) { required = true; value_names = 1 }

-- any number of words
abbrev pub any_words : Text → Rule
any_words name = record (new_rule name) {
  action = Some Append;
  range = Some (record { start_inclusive = 0; end_inclusive = usize_max });
  value_names = 1;
}

-- one or more words
abbrev pub some_words : Text → Rule
some_words name = record (new_rule name) {
  action = Some Append;
  range = Some (record { start_inclusive = 1; end_inclusive = usize_max });
  value_names = 1;
  required = true;
}

-- by how words are read into it
abbrev pub rule_in : Form → Text → Rule
rule_in (form.Option value) name = option name
rule_in (form.RepeatedOption value) name = repeated_option name
rule_in form.Flag name = flag name
rule_in (form.OneWord value) name = one_word name
rule_in (form.AnyWords value) name = any_words name
rule_in (form.SomeWords value) name = some_words name

-- by its row
abbrev pub rule_of_row : Row → Rule
rule_of_row row = rule_in row.form row.name.now

-- ---- commands

-- a command without subcommands, by its arguments
abbrev pub command : Text → List Rule → Shape
command name rules = record (new_shape name) { rules = rules }

-- by its table
abbrev pub command_of : Table → Shape
command_of table = command table.name.now (map rule_of_row table.rows.now)

abbrev pub alone : Shape → App
alone shape = record { top = shape; subs = [] }

abbrev pub check_command : Shape
check_command = command (codes "check")
    (option (codes "language")
    ∷ repeated_option (codes "reference")
    ∷ repeated_option (codes "with")
    ∷ option (codes "translation")
    ∷ option (codes "format")
    ∷ flag (codes "quiet")
    ∷ flag (codes "strict")
    ∷ flag (codes "every")
    ∷ flag (codes "caret")
    ∷ flag (codes "color")
    ∷ flag (codes "each")
    ∷ flag (codes "all-categories")
    ∷ repeated_option (codes "function")
    ∷ repeated_option (codes "allow")
    ∷ any_words (codes "file") ∷ [])

abbrev pub show_command : Shape
show_command = command (codes "show")
    (option (codes "language")
    ∷ repeated_option (codes "fallback")
    ∷ repeated_option (codes "text")
    ∷ flag (codes "strict")
    ∷ repeated_option (codes "with")
    ∷ repeated_option (codes "function")
    ∷ one_word (codes "file")
    ∷ one_word (codes "id")
    ∷ any_words (codes "argument") ∷ [])

abbrev pub list_command : Shape
list_command = command (codes "list") (some_words (codes "file") ∷ [])

-- the program has a version, reads words without its own name before them, and wants a subcommand
abbrev pub bare_program : Shape
bare_program = record (new_shape (codes "fluent")) {
  no_binary_name = true;
  has_version = true;
  arg_required_else_help = true;
  subcommand_required = true;
}

abbrev pub program : App
program = with_subcommand (with_subcommand (with_subcommand (alone bare_program) check_command) show_command) list_command

-- ---- what is built

-- an argument by which words are read so
pub record IsArgument (rule : Rule) (argument : Arg) : Type 0 where
  pub is : rule_of argument ≡ rule
  pub local : argument.global ≡ false

-- a command by which words are read so
pub record Reads (app : App) (command : Command) : Type 0 where
  pub is : app_of command ≡ app
  pub local : (fields_of command).has_globals ≡ false
