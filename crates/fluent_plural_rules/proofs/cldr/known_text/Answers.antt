use Rattle.std.proofs.Common.{sym, ap, ◌∙◌, ltb-true}
use Rattle.std.specs.Option.{option_map}
use Rattle.std.proofs.lemmas.Bool.{ltb-false}
use Rattle.fluent_plural_rules.proofs.CldrTable.{text_past, text_read, rules_read}
use Rattle.fluent_plural_rules.proofs.cldr.known_text.Goals as goal

pub returns-in_err-text-clause-text : goal.returns-in_err-text-clause-text
returns-in_err-text-clause-text c =
    ap (option_map (λ known. known.text.now)) c.from_residual.ensures ∙ sym (text_past c.texts.result.now c.args.at c.texts.ensures (ltb-false _ _ (sym c.in_err-text.ensures.lookup.0)))

pub returns-clause-text : goal.returns-clause-text
returns-clause-text c = sym (text_read c.texts.result.now c.args.at c.in_ok-text.field-0.now c.texts.ensures (ltb-true _ _ (sym c.in_ok-text.ensures.lookup.0)) c.in_ok-text.ensures.lookup.1)

pub returns-clause-read : goal.returns-clause-read
returns-clause-read c = rules_read c.texts.result.now c.args.at c.in_ok-text.field-0.now c.texts.ensures (ltb-true _ _ (sym c.in_ok-text.ensures.lookup.0)) c.in_ok-text.ensures.lookup.1
