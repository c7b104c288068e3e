use Rattle.fluent_bundle.proofs.Asked.{gives_asked, gives_refused, gives_nothing, borrows_asked, borrows_failed, borrows_nothing}
use Rattle.fluent_bundle.proofs.bundle.FluentBundle.format_asked.Goals as goal

pub returns-in-Ok-clause-finds : goal.returns-in-Ok-clause-finds
returns-in-Ok-clause-finds g c = gives_asked _ _ _ c.in-Ok.text _ _ c.in-Some.ensures.content (c.limits_are_kept.ensures _ _ _) c.in-Ok.ensures.whole c.in-Ok.ensures.prefix

pub returns-in-Ok-clause-borrowed : goal.returns-in-Ok-clause-borrowed
returns-in-Ok-clause-borrowed g c = borrows_asked c.args.self.now _ c.in-Ok.text c.in-Some.ensures.content c.in-Ok.ensures.borrowed

pub returns-in-Err-clause-finds : goal.returns-in-Err-clause-finds
returns-in-Err-clause-finds g c = gives_refused _ _ _ _ _ _ c.in-Some.ensures.content c.in-Err.ensures.prefix

pub returns-in-Err-clause-borrowed : goal.returns-in-Err-clause-borrowed
returns-in-Err-clause-borrowed g c = borrows_failed c.args.self.now _ _ c.in-Some.ensures.content c.in-Err.ensures.borrowed

pub returns-in-None-clause-finds : goal.returns-in-None-clause-finds
returns-in-None-clause-finds g c = gives_nothing _ _ _ c.in-None.ensures.content

pub returns-in-None-clause-borrowed : goal.returns-in-None-clause-borrowed
returns-in-None-clause-borrowed g c = borrows_nothing c.args.self.now c.in-None.ensures.content
