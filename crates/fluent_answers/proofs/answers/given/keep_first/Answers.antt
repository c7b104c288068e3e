use Rattle.std.proofs.Common.{rules, ap}
use Rattle.fluent_answers.specs.Inside.Given.{given_view}
use Rattle.fluent_answers.proofs.AnswerProofs.{joins, part}
use Rattle.fluent_answers.proofs.answers.given.keep_first.Goals as goal

pub returns : goal.returns
returns c = joins (given_view c.args.given.now) c.args.rows.now c.insert.new.self c.in_ok-question.question (record { kind = c.args.given.now.kind; text = c.in_ok-text.text })
    c.in_ok-question.ensures.items (ap (part c.args.given.now.kind) c.in_ok-text.ensures.ok) (search rules) c.in_ok-insert.ensures.entries
