use Rattle.std.proofs.Common.{rules, ◌≡◌, false}
use Rattle.std.specs.Prelude.{codes}
use Rattle.fluent_semantics.specs.Number.{is_text}
use Rattle.fluent_values.specs.View.{named, value_view}
use Rattle.fluent_answers.specs.Numbers.{before, option_values}
use Rattle.fluent_answers.specs.OwnContent.{own_content}
use Rattle.fluent_answers.proofs.NumberProofs.{not_empty, turn}
use Rattle.fluent_answers.proofs.numbers.option_args.Goals as goal

pub loop-rest-preserved : goal.loop-rest-preserved
loop-rest-preserved c =
    let other : is_text (before 61 c.loop-rest.rest.now) (codes "currency") ≡ false = search rules in record {
      text = search rules;
      left = turn (option_values c.args.text.now) c.loop-rest.rest.now c.parted-in-loop-rest.result.0.now c.parted-in-loop-rest.result.1.now c.parted-in-loop-rest-2.result.0.now c.parted-in-loop-rest-2.result.1.now
          (value_view own_content c.try_number.result) (named own_content c.loop-rest.args) (named own_content c.set-in-loop-rest.new.self) c.loop-rest.invariant.left
          (not_empty c.loop-rest.rest.now c.is_empty.result c.is_empty.ensures (search rules)) other
          c.parted-in-loop-rest.ensures.before c.parted-in-loop-rest.ensures.after c.parted-in-loop-rest-2.ensures.before c.parted-in-loop-rest-2.ensures.after c.try_number.ensures c.in_ok-set-2.ensures.ok;
    }
