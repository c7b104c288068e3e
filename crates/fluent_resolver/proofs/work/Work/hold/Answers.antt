use Rattle.fluent_resolver.proofs.Pushing.{if_ok}
use Rattle.fluent_resolver.proofs.work.Work.hold.Goals as goal

pub returns-in-Ok-clause-waits : goal.returns-in-Ok-clause-waits
returns-in-Ok-clause-waits g c = if_ok c.wait.result (λ on. record { box = c.in-Ok.gathering; value = c.in-Ok.ensures.ok; frames = on }) c.wait.ensures.frames
