use denote.Shadow.{shadow}
use denote.Text.{Utf8}
use Rattle.std.proofs.Common.{◌≡◌, ◌≤◌, ℕ, length}
use Rattle.fluent_semantics.specs.Arguments.{set_all}
use Rattle.fluent_values.specs.View.{named}
use Rattle.fluent_answers.specs.Numbers.{option_values, options_within}
use Rattle.fluent_answers.specs.OwnContent.{own_content}
use Rattle.fluent_answers.proofs.numbers.option_args.Given as goal

-- the options that are left, set after those so far
abbrev pub invariant-loop-rest : goal.invariant-loop-rest
invariant-loop-rest l = record {
  text : shadow (Utf8 l.rest);
  left : (n : ℕ) × (length l.rest ≤ n) × (set_all (options_within n l.rest) (named own_content l.args) ≡ option_values l.text);
}

abbrev pub decreases-loop-rest : goal.decreases-loop-rest
decreases-loop-rest l = length l.rest
