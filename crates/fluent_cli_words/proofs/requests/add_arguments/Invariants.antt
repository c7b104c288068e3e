use Rattle.std.proofs.Common.{◌≡◌, ◌++◌, map, take}
use Rattle.fluent_cli_words.specs.Given.{argument_in, argument_view, texts}
use Rattle.fluent_cli_words.proofs.requests.add_arguments.Given as goal

abbrev pub invariant-loop-word : goal.invariant-loop-word
invariant-loop-word l =
    map argument_view l.arguments.items
    ≡ map argument_view l.fn.arguments.items ++ map (argument_in l.is_text) (texts (take l.word-index l.words))
