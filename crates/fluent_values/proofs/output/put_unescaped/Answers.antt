use Rattle.std.proofs.Common.{rules, sym, refl}
use Rattle.fluent_values.specs.Facts.Outputs.{to_writer, unkept}
use Rattle.fluent_values.specs.Facts.Took.{took_as, took_none}
use Rattle.fluent_values.proofs.output.put_unescaped.Goals as goal

pub returns-in_err-text : goal.returns-in_err-text
returns-in_err-text g c = took_none _ _ (search rules)

pub returns-else-out-2 : goal.returns-else-out-2
returns-else-out-2 g c =
    let out = c.args.out.now in
    let e = c.unescape_unicode-answer.ensures in
    unkept g.W.Write.contents out (record out { writer = record out.writer { now = c.unescape_unicode-answer.new.w } }) _ (search rules) refl (took_as (sym c.set_aside.ensures) (to_writer c.unescape_unicode-answer.result g.W.Write.contents out.writer.ghost_name out.buffer.ghost_name out.writer.now c.unescape_unicode-answer.new.w out.buffer.now out.is_buffered _ (search rules) e.whole e.prefix e.fault))
