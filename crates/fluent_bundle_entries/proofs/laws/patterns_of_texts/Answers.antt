use Rattle.std.proofs.Common.{refl}
use Rattle.fluent_bundle_entries.proofs.laws.patterns_of_texts.Goals as goal

pub returns : goal.returns
returns c = record {
  nothing_is_text = refl;
  two_texts = refl;
  placeable_alone = refl;
  placeable_first = refl;
  placeable_last = refl;
  texts_in_order = refl;
  placeables_passed_over = refl;
  sole = refl;
  not_two = refl;
  not_a_placeable = refl;
  not_nothing = refl;
}
