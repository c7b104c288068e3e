use Rattle.std.proofs.Common.{refl}
use Rattle.fluent_check.proofs.examples.what_is_wrong_with_whole_places.Goals as goal

pub returns : goal.returns
returns c = record {
  no_finding = λ shown. refl;
  itself = λ x y. refl;
  next = λ x y z w. refl;
  too_many = λ x count limit. refl;
  may_open = λ x count limit. refl;
  alone = λ shown x y. refl;
  elsewhere_alone = λ shown x y. refl;
  not_alone = λ shown x y. refl;
  missing = λ shown x. refl;
}
