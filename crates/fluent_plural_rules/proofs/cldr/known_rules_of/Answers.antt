use Rattle.std.proofs.Common.{find, sym, ap, refl, ◌∙◌}
use Rattle.std.specs.Option.{option_map, option_and_then}
use Rattle.fluent_plural_rules.specs.Inside.Rows.{content_of, is_row_of, known_content}
use Rattle.fluent_plural_rules.proofs.CldrTable.{rules_at_row}
use Rattle.fluent_plural_rules.proofs.cldr.known_rules_of.Goals as goal

pub returns-in_err-cardinal-clause-texts : goal.returns-in_err-cardinal-clause-texts
returns-in_err-cardinal-clause-texts c =
    let tag = c.args.tag.now in
    let found = rw c.in_err-cardinal.was at (c.row_of.ensures ∙ ap (find (is_row_of tag)) c.rows.ensures.are) in
    ap (option_map known_content) c.from_residual.ensures ∙ ap (option_and_then content_of) found ∙ sym (rules_at_row tag)

pub returns-in_err-known_text-clause-texts : goal.returns-in_err-known_text-clause-texts
returns-in_err-known_text-clause-texts c =
    let tag = c.args.tag.now in
    let found = rw c.in_ok-cardinal.was at (c.row_of.ensures ∙ ap (find (is_row_of tag)) c.rows.ensures.are) in
    let first = rw c.in_err-known_text.was at c.known_text.ensures.text in
    ap (option_map known_content) c.from_residual-in_err-known_text.ensures ∙ sym (rw (sym first) refl) ∙ ap (option_and_then content_of) found ∙ sym (rules_at_row tag)

pub returns-in_err-known_text-2-clause-texts : goal.returns-in_err-known_text-2-clause-texts
returns-in_err-known_text-2-clause-texts c =
    let tag = c.args.tag.now in
    let found = rw c.in_ok-cardinal.was at (c.row_of.ensures ∙ ap (find (is_row_of tag)) c.rows.ensures.are) in
    let first = rw c.in_ok-known_text.was at c.known_text.ensures.text in
    let second = rw c.in_err-known_text-2.was at c.known_text-2.ensures.text in
    ap (option_map known_content) c.from_residual-in_err-known_text-2.ensures ∙ sym (rw (sym first, sym second) refl) ∙ ap (option_and_then content_of) found ∙ sym (rules_at_row tag)

pub returns-clause-texts : goal.returns-clause-texts
returns-clause-texts c =
    let tag = c.args.tag.now in
    let found = rw c.in_ok-cardinal.was at (c.row_of.ensures ∙ ap (find (is_row_of tag)) c.rows.ensures.are) in
    let first = rw c.in_ok-known_text.was at c.known_text.ensures.text in
    let second = rw c.in_ok-known_text-2.was at c.known_text-2.ensures.text in
    sym (rw (sym first, sym second) refl) ∙ ap (option_and_then content_of) found ∙ sym (rules_at_row tag)
