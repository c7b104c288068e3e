use Rattle.std.proofs.Common.{refl}
use Rattle.fluent_bundle.proofs.Asked.{writes_asked, writes_refused, writes_nothing, free_asked, free_refused, free_nothing}
use Rattle.fluent_bundle.proofs.bundle.FluentBundle.write_asked.Goals as goal

pub returns-in-Ok-clause-writes : goal.returns-in-Ok-clause-writes
returns-in-Ok-clause-writes g c = writes_asked _ _ _ _ _ _ _ _ c.in-Some.ensures.content (c.limits_are_kept.ensures _ _ _) c.in-Ok.ensures.whole c.in-Ok.ensures.prefix

pub returns-in-Ok-clause-memory : goal.returns-in-Ok-clause-memory
returns-in-Ok-clause-memory g c = free_asked c.args.self.now _ c.in-Some.ensures.content

pub returns-in-Err-clause-writes : goal.returns-in-Err-clause-writes
returns-in-Err-clause-writes g c = writes_refused _ _ _ _ _ _ _ _ _ c.in-Some.ensures.content c.in-Err.ensures.prefix

pub returns-in-Err-clause-memory : goal.returns-in-Err-clause-memory
returns-in-Err-clause-memory g c = free_refused c.args.self.now _ _ refl c.in-Some.ensures.content c.in-Err.ensures.memory

pub returns-in-None-clause-writes : goal.returns-in-None-clause-writes
returns-in-None-clause-writes g c = writes_nothing _ _ _ _ _ c.in-None.ensures.content

pub returns-in-None-clause-memory : goal.returns-in-None-clause-memory
returns-in-None-clause-memory g c = free_nothing c.args.self.now c.in-None.ensures.content
