use Rattle.std.proofs.Common.{◌≡◌, map, drop}
use Rattle.fluent_semantics.specs.Arguments.{set_all}
use Rattle.fluent_answers.specs.ArgumentView.{args_view, argument_view}
use Rattle.fluent_answers.specs.Values.{argument_pair, argument_values}
use Rattle.fluent_answers.proofs.value.set_all.Given as goal

-- the rest set after those so far
abbrev pub invariant-loop-argument : goal.invariant-loop-argument
invariant-loop-argument l =
    set_all (map argument_pair (map argument_view (drop l.argument-index l.list))) (args_view l.args)
    ≡ argument_values (map argument_view l.list)
