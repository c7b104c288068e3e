use Rattle.std.proofs.Common.{arith, ap, length}
use Rattle.fluent_intl.proofs.DecimalLength.{length-places}
use Rattle.fluent_intl.proofs.decimal.backward.DecimalText.put_point.Goals as goal

pub put-requires-clause-room : goal.put-requires-clause-room
put-requires-clause-room c =
    omega (arith, ap length c.put_places.ensures, length-places c.args.fraction c.in-Some.places c.args.self.now, c.requires.room, c.requires.few c.in-Some.places c.in-Some.is)

pub returns-in-Some-clause-room : goal.returns-in-Some-clause-room
returns-in-Some-clause-room c =
    omega (arith, ap length c.put.ensures, ap length c.put_places.ensures, length-places c.args.fraction c.in-Some.places c.args.self.now, c.requires.few c.in-Some.places c.in-Some.is)
