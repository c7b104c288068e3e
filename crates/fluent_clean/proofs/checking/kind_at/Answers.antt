use Rattle.std.proofs.Common.{◌≡◌, Some, rules}
use Rattle.fluent_places.specs.Facts.Targets.{some_there}
use Rattle.fluent_clean.proofs.Explained.{none_there}
use Rattle.fluent_clean.proofs.Tables.{right_known}
use Rattle.fluent_clean.proofs.checking.kind_at.Goals as goal

pub returns-in_default : goal.returns-in_default
returns-in_default g c n e =
    let says = c.missing.ensures (none_there _ c.in_default.ensures) n e in
    (says.0, λ seen fs all. says.1 seen fs)

pub returns-in-Some-Some : goal.returns-in-Some-Some
returns-in-Some-Some g c =
    let counts : c.in-Some-Some.field-0.now ≡ Some c.in-Some-Some.field-0-0 = search (rules, c.in-Some-Some.field-0-is) in
    ((_, some_there _ _ c.in-Some.ensures), right_known _ _ c.args.place.now _ _ c.requires c.in-Some-Some.ensures.value counts)
