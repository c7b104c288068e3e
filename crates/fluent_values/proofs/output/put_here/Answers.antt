use Rattle.std.proofs.Common.{rules}
use Rattle.fluent_values.specs.Facts.Outputs.{in_kept, unkept}
use Rattle.fluent_values.proofs.output.put_here.Goals as goal

pub returns-in_ok-push_str-clause-took : goal.returns-in_ok-push_str-clause-took
returns-in_ok-push_str-clause-took g c = let out = c.args.out.now in in_kept g.W.Write.contents out.writer.ghost_name out.buffer.ghost_name out.writer.now out.buffer.now out.kept.now c.push_str.new.self out.is_buffered out.is_kept c.args.text.now (search rules) (search rules)

pub returns-else-out-clause-took : goal.returns-else-out-clause-took
returns-else-out-clause-took g c = unkept g.W.Write.contents c.args.out.now c.put_outside.new.out c.args.text.now (search rules) c.put_outside.ensures.kept c.put_outside.ensures.took
