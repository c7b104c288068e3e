-- Which record an argument of the code is, and what a call's arguments mean.
use Rattle.fluent_ast.specs.Tree.{Text}
use Rattle.fluent_semantics.specs.Arguments.{Map}
use Rattle.fluent_semantics.specs.Value.{Value}
use Rattle.fluent_values.specs.View.{named}
use Rattle.fluent_values.specs.declared.args.FluentArgs.{FluentArgs}
use Rattle.fluent_answers.specs.OwnContent.{own_content}
use Rattle.fluent_answers.specs.Records.{Record}
use Rattle.fluent_answers.specs.declared.argument.Argument.{Argument}
use Rattle.fluent_answers.specs.declared.own.OwnValue.{OwnValue}

abbrev pub argument_view : Argument → Record
argument_view a = record { name = a.name.now; kind = a.kind; value = a.value.now }

abbrev pub args_view : FluentArgs OwnValue → Map (Value Text)
args_view = named own_content
