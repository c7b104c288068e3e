use Rattle.fluent_sources.proofs.wording.put_unreadable.Goals as goal

pub returns : goal.returns
returns c = rw (c.position_at-line.ensures.line, c.text.ensures) at c.put_unread.ensures
