use Rattle.std.proofs.Common.{rules, sym, ◌∙◌}
use Rattle.fluent_values.specs.Facts.Took.{took_same, took_as, stays_memory}
use Rattle.fluent_values.specs.Facts.Outputs.{in_buffer, to_writer}
use Rattle.fluent_values.proofs.output.put_outside.Goals as goal

pub returns-in_ok-push_str-clause-took : goal.returns-in_ok-push_str-clause-took
returns-in_ok-push_str-clause-took g c = let out = c.args.out.now in in_buffer g.W.Write.contents out.writer.ghost_name out.buffer.ghost_name out.writer.now out.buffer.now c.push_str.new.self out.is_buffered c.args.text.now (search rules) (search rules)

pub returns-else-out-clause-took : goal.returns-else-out-clause-took
returns-else-out-clause-took g c =
    let out = c.args.out.now in
    let e = c.put-answer.ensures in
    took_as (sym c.set_aside.ensures) (took_same c.as_bytes.ensures.value (to_writer c.put-answer.result g.W.Write.contents out.writer.ghost_name out.buffer.ghost_name out.writer.now c.put-answer.new.w out.buffer.now out.is_buffered c.as_bytes.result.now (search rules) e.whole e.prefix e.fault))

pub returns-else-out-clause-memory : goal.returns-else-out-clause-memory
returns-else-out-clause-memory g c = λ bare is. c.put-answer.ensures.memory (stays_memory c.put-answer.result (sym c.set_aside.ensures ∙ is))
