use Rattle.std.proofs.Common.{◌≡◌, drop, find, not}
use Rattle.fluent_cli_words.specs.Given.{is_argument, texts}
use Rattle.fluent_cli_words.proofs.faults.no_argument.Given as goal

abbrev pub invariant-loop-word : goal.invariant-loop-word
invariant-loop-word l = find (λ text. not (is_argument text)) (texts (drop l.word-index l.words)) ≡ find (λ text. not (is_argument text)) (texts l.words)
