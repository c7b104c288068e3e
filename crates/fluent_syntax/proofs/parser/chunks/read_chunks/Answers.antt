use Rattle.std.proofs.Common.{◌≡◌, ◌+◌, ◌-◌, ◌<◌, length, arith, rules}
use Rattle.std.proofs.lemmas.Bool.Decides.{nat_tests}
use Rattle.fluent_syntax.specs.Parsed.{error_range}
use Rattle.fluent_syntax.specs.Inside.PartView.{chunk_view}
use Rattle.fluent_syntax.specs.Inside.Reading.{all}
use Rattle.fluent_ast.specs.View.{entry_view}
use Rattle.fluent_syntax.specs.Facts.Chunked.{chunk_shorter, chunk_lens, entries-step, ranges-step, entries-end, ranges-end}
use Rattle.fluent_syntax.proofs.parser.chunks.read_chunks.Goals as goal

pub chunks-smaller : goal.chunks-smaller
chunks-smaller c = chunk_shorter c.chunks.rest.now (chunk_view c.in_ok-next.next) c.in_ok-next.after.now (grind (arith, nat_tests, c.chunks-test.ensures)) c.in_ok-next.ensures

pub chunks-preserved : goal.chunks-preserved
chunks-preserved c =
    let s = c.chunks.rest.now in
    let next = chunk_view c.in_ok-next.next in
    let rest = c.in_ok-next.after.now in
    let at = length c.args.source.now - length s in
    let n : 0 < length s = grind (arith, nat_tests, c.chunks-test.ensures) in
    let lens = chunk_lens s next rest c.in_ok-next.ensures in
    let m : length c.args.source.now - length rest ≡ at + length c.in_ok-next.next.text.now = omega arith in
    record {
      utf8 = search rules;
      within = omega arith;
      entries = entries-step (all entry_view c.chunks.found.body) (all entry_view c.add.new.self.body) s next rest _ n c.in_ok-next.ensures c.in_ok-add.ensures.entries c.chunks.invariant.entries;
      errors = ranges-step (all error_range c.chunks.found.errors) (all error_range c.add.new.self.errors) at _ s next rest _ n c.in_ok-next.ensures m c.in_ok-add.ensures.errors c.chunks.invariant.errors;
    }

pub returns-clause-entries : goal.returns-clause-entries
returns-clause-entries c = entries-end _ c.chunks.rest.now _ (grind (arith, nat_tests, c.chunks-test.ensures)) c.chunks.invariant.entries

pub returns-clause-errors : goal.returns-clause-errors
returns-clause-errors c = ranges-end _ _ c.chunks.rest.now _ (grind (arith, nat_tests, c.chunks-test.ensures)) c.chunks.invariant.errors
