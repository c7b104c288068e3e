use Rattle.std.proofs.Common.{◌≡◌, ◌++◌, map, drop}
use Rattle.fluent_values.specs.View.{value_view}
use Rattle.fluent_answers.specs.Encoded.{all_encoded}
use Rattle.fluent_answers.specs.OwnContent.{own_content}
use Rattle.fluent_answers.specs.Questions.{positional_record}
use Rattle.fluent_answers.proofs.questions.put_positional.Given as goal

-- what is written, and the values that are left
abbrev pub invariant-loop-value : goal.invariant-loop-value
invariant-loop-value l =
    l.out.items ++ all_encoded (map positional_record (map (value_view own_content) (drop l.value-index l.values)))
    ≡ l.fn.out.items ++ all_encoded (map positional_record (map (value_view own_content) l.values))
