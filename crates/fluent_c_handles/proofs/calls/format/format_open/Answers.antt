use Rattle.std.proofs.Common.{◌∙◌, sym}
use Rattle.fluent_c_handles.proofs.AskedBy.{formats_unasked}
use Rattle.fluent_c_handles.proofs.calls.format.format_open.Goals as goal

pub returns-else-is_any : goal.returns-else-is_any
returns-else-is_any c =
    let w = c.args.wanted.now in
    record {
      answer = c.unasked.ensures.answer;
      done = formats_unasked c.args.meant.now.table c.args.answers.now w.form w.id.now w.name.now w.args.now c.args.stock.now (sym c.is_any.ensures ∙ c.if-is_any.false) c.unasked.ensures.answer c.unasked.ensures.done;
      given = c.unasked.ensures.given;
    }
