use Rattle.std.proofs.Common.{◌≡◌, ◌+◌, ◌-◌, ◌<◌, length, arith, rules}
use Rattle.std.proofs.lemmas.Bool.Decides.{nat_tests}
use Rattle.fluent_syntax.specs.Inside.PartView.{chunk_view}
use Rattle.fluent_syntax.specs.Facts.Chunked.{chunk_shorter, chunk_lens, starts-step, starts-end}
use Rattle.fluent_syntax.proofs.parser.chunks.entry_starts.Goals as goal

pub chunks-smaller : goal.chunks-smaller
chunks-smaller c = chunk_shorter c.chunks.rest.now (chunk_view c.in_ok-next.next) c.in_ok-next.after.now (grind (arith, nat_tests, c.chunks-test.ensures)) c.in_ok-next.ensures

pub chunks-preserved : goal.chunks-preserved
chunks-preserved c =
    let s = c.chunks.rest.now in
    let next = chunk_view c.in_ok-next.next in
    let rest = c.in_ok-next.after.now in
    let at = length c.args.source.now - length s in
    let n : 0 < length s = grind (arith, nat_tests, c.chunks-test.ensures) in
    let lens = chunk_lens s next rest c.in_ok-next.ensures in
    let m : length c.args.source.now - length rest ≡ at + length c.in_ok-next.next.text.now = omega arith in
    record {
      utf8 = search rules;
      within = omega arith;
      starts = starts-step c.chunks.starts.items c.add_start.new.starts.items at _ s next rest _ n c.in_ok-next.ensures m c.in_ok-add_start.ensures c.chunks.invariant.starts;
    }

pub returns : goal.returns
returns c = starts-end _ _ c.chunks.rest.now _ (grind (arith, nat_tests, c.chunks-test.ensures)) c.chunks.invariant.starts
