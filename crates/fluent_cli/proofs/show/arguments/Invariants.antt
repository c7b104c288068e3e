use Rattle.std.proofs.Common.{◌≡◌, [], map, drop}
use Rattle.fluent_semantics.specs.Arguments.{set_all}
use Rattle.fluent_values.specs.View.{named}
use Rattle.fluent_cli.specs.Shown.{argument, arguments_of}
use Rattle.fluent_cli.proofs.show.arguments.Given as goal

abbrev pub invariant-loop-word : goal.invariant-loop-word
invariant-loop-word l =
    set_all (map argument (drop l.word-index l.words)) (named (λ c. []) l.args) ≡ arguments_of l.words
