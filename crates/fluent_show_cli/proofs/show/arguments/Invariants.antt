use Rattle.std.proofs.Common.{◌≡◌, map, drop, string_bytes}
use Rattle.fluent_semantics.specs.Arguments.{set_all}
use Rattle.fluent_show_cli.specs.Program.{argument, arguments_of}
use Rattle.fluent_show_words.specs.Words.{name_and_value}
use Rattle.fluent_show_cli.specs.Inside.BundleView.{args_view}
use Rattle.fluent_show_cli.proofs.show.arguments.Given as goal

abbrev pub invariant-loop-word : goal.invariant-loop-word
invariant-loop-word l =
    set_all (map argument (map name_and_value (map string_bytes (drop l.word-index l.words)))) (args_view l.args)
    ≡ arguments_of (map name_and_value (map string_bytes l.words))
