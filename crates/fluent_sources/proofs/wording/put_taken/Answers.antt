use Rattle.fluent_sources.proofs.wording.put_taken.Goals as goal

pub returns : goal.returns
returns c =
    rw (c.name_at-name.ensures, c.position_at-at.ensures.line, c.position_at-at.ensures.column) at c.put_taken_by.ensures
