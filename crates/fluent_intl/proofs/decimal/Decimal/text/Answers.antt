use Rattle.std.proofs.Common.{◌≡◌, arith, ap, sym, subst, length, rules, length-append}
use Rattle.fluent_intl.specs.Decimal.{IsText, decimal_text}
use Rattle.std.specs.Fmt.{decimal}
use Rattle.fluent_intl.proofs.DecimalLength.{length-whole-le}
use Rattle.fluent_intl.proofs.DecimalTexts.{is_text, written}
use Rattle.fluent_intl.proofs.decimal.Decimal.text.Goals as goal

pub put_whole-requires : goal.put_whole-requires
put_whole-requires c = omega (arith, length-whole-le c.whole.result (search rules), c.put_point.ensures.room, ap length c.new-text.ensures)

pub put_sign-requires : goal.put_sign-requires
put_sign-requires c =
    omega (arith, length-whole-le c.whole.result (search rules), c.put_point.ensures.room, ap length c.new-text.ensures, ap length c.put_whole.ensures, length-append (decimal c.whole.result) c.put_point.new.self)

text_of : (c : goal.After-put_sign) → c.put_sign.new.self ≡ decimal_text c.args.self.now c.args.minimum
text_of c =
    written c.args.self.now c.args.minimum c.fraction-fraction.result c.whole.result c.is_negative.result c.text_places.result c.new-text.result c.put_point.new.self c.put_whole.new.self c.put_sign.new.self
    c.fraction-fraction.ensures c.whole.ensures c.is_negative.ensures c.text_places.ensures.value c.new-text.ensures c.put_point.ensures.value c.put_whole.ensures c.put_sign.ensures

pub returns-clause-bytes : goal.returns-clause-bytes
returns-clause-bytes c = text_of c

pub returns-clause-text : goal.returns-clause-text
returns-clause-text c = subst (IsText c.args.self.now c.args.minimum) (sym (text_of c)) (is_text c.args.self.now c.args.minimum (search rules))
