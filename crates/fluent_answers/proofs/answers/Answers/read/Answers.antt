use Rattle.std.proofs.Common.{◌∙◌}
use Rattle.fluent_answers.specs.Inside.Given.{given_view}
use Rattle.fluent_answers.specs.Records.{HasTextValue}
use Rattle.fluent_answers.proofs.Stands.{first_of}
use Rattle.fluent_answers.proofs.answers.Answers.read.Goals as goal

pub returns-in_default-clause-err : goal.returns-in_default-clause-err
returns-in_default-clause-err c = first_of HasTextValue given_view c.in-Ok.list.items c.args.bytes.now c.in-Ok.ensures.ok (λ none. c.in_default.ensures.err (c.as_slice.ensures.value ∙ none))
