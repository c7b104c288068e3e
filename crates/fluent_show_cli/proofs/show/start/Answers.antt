use Rattle.std.proofs.Common.{◌∙◌, ap}
use Rattle.fluent_semantics.specs.Bundle.{add_builtins, after, set_use_isolating}
use Rattle.fluent_show_cli.proofs.show.start.Goals as goal

pub returns-in-Ok : goal.returns-in-Ok
returns-in-Ok c =
    c.in-Ok.ensures.step.0 ∙ ap (after add_builtins) (c.set_use_isolating.ensures.step ∙ ap (after (set_use_isolating c.args.isolate)) c.new-bundle.ensures.empty)
