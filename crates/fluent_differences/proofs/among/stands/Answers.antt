use Rattle.std.proofs.Common.{◌∙◌}
use Rattle.fluent_differences.specs.Facts.PlaceTests.{any_place}
use Rattle.fluent_differences.proofs.among.stands.Goals as goal

pub returns : goal.returns
returns c = c.contains.ensures ∙ any_place c.args.place.now c.args.places.now.keys
