use Rattle.std.proofs.Common.{get_or, inl, inr, arith}
use Rattle.fluent_sources.proofs.Stepped.{past_feed, past_character, past_continuation, read_itself}
use Rattle.fluent_sources.proofs.lines.step.Goals as goal

pub returns-then-byte-eq10-clause-exact : goal.returns-then-byte-eq10-clause-exact
returns-then-byte-eq10-clause-exact c =
    past_feed c.args.bytes.now c.args.mark c.requires.exact c.requires.within (get_or c.args.bytes.now c.args.mark.at 0) (read_itself c.args.bytes.now c.args.mark.at) c.if-byte-eq10.true

pub returns-then-byte-ge192-clause-exact : goal.returns-then-byte-ge192-clause-exact
returns-then-byte-ge192-clause-exact c =
    past_character c.args.bytes.now c.args.mark c.requires.exact c.requires.within (get_or c.args.bytes.now c.args.mark.at 0) (read_itself c.args.bytes.now c.args.mark.at) c.if-byte-eq10.false
    (elim c.if-byte-ge192.either [ inl low ↦ inl (omega arith) | inr high ↦ inr (omega arith) ])

pub returns-else-byte-ge192-clause-exact : goal.returns-else-byte-ge192-clause-exact
returns-else-byte-ge192-clause-exact c =
    let neither = c.if-byte-ge192.false in
    past_continuation c.args.bytes.now c.args.mark c.requires.exact c.requires.within (get_or c.args.bytes.now c.args.mark.at 0) (read_itself c.args.bytes.now c.args.mark.at) c.if-byte-eq10.false
    (λ low. omega arith) (λ high. omega arith)
