use Rattle.std.proofs.Common.{◌≡◌, ◌++◌, map}
use Rattle.fluent_values.specs.Args.{shown_left}
use Rattle.fluent_values.specs.View.{named}
use Rattle.fluent_answers.specs.Encoded.{all_encoded}
use Rattle.fluent_answers.specs.OwnContent.{own_content}
use Rattle.fluent_answers.specs.Questions.{named_record}
use Rattle.fluent_answers.proofs.questions.put_named.Given as goal

-- what is written, and the pairs that are left
abbrev pub invariant-loop-name : goal.invariant-loop-name
invariant-loop-name l =
    l.out.items ++ all_encoded (map named_record (shown_left own_content l.name-iterator))
    ≡ l.fn.out.items ++ all_encoded (map named_record (named own_content l.fn.arguments))
