use Rattle.std.proofs.Common.{ap, ◌∙◌}
use Rattle.std.specs.Option.{option_map}
use Rattle.fluent_patterns.specs.Found.{spot_view}
use Rattle.fluent_sources.proofs.TakenIds.{noted_first}
use Rattle.fluent_sources.proofs.taken.first_of.Goals as goal

pub returns : goal.returns
returns c = ap (option_map spot_view) (c.copied.ensures ∙ c.get.ensures.value) ∙ noted_first c.args.id.now c.args.firsts.now.entries
