use Rattle.std.proofs.Common.{◌≡◌, ◌∙◌, ap, sym}
use Rattle.std.specs.Option.{option_map}
use Rattle.fluent_answers.specs.Answered.{answer_in, answer_view}
use Rattle.fluent_answers.specs.Values.{value_of}
use Rattle.fluent_answers.proofs.answers.Answers.value.Goals as goal

pub returns : goal.returns
returns c =
    let table = c.args.self.now.meant.table in let answer = c.in-Some.answer.now in
    let is_answered : answer_in table c.args.question.now ≡ value_of answer.kind (answer_view answer).1 =
    c.args.self.now.agrees c.args.question.now (answer_view answer) (ap (option_map answer_view) (sym c.in-Some.ensures.value)) in
    c.in_ok-into_owned.ensures.same ∙ c.in_ok-value.ensures ∙ ap (value_of answer.kind) c.as_str.ensures.value ∙ sym is_answered
