use Rattle.std.proofs.Common.{rules, ◌≡◌}
use Rattle.fluent_bundle.proofs.Formats.{adds_all, adds_some, gathered}
use Rattle.fluent_bundle.proofs.bundle.FluentBundle.write_into.Goals as goal

pub returns-clause-text : goal.returns-clause-text
returns-clause-text g c =
    let out = c.write_resolved.new.out in
    let last : c.text-1.given.0 ≡ out.buffer.now = search rules in
    let h = gathered _ _ _ (c.events_are_the_run.ensures _ _ _) g.W.Write.contents _ out.writer.ghost_name _ out.buffer.ghost_name c.args.unused.now out.writer.now c.args.text.now out.buffer.now out.is_buffered c.write_resolved.ensures in
    rw last h

pub returns-clause-errors : goal.returns-clause-errors
returns-clause-errors g c = adds_all _ _ _ (c.events_are_the_run.ensures _ _ _) c.write_resolved.ensures

pub returns-clause-prefix : goal.returns-clause-prefix
returns-clause-prefix g c = adds_some _ _ _ (c.events_are_the_run.ensures _ _ _) c.write_resolved.ensures
