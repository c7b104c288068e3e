use Rattle.std.proofs.Common.{sym, ◌∙◌}
use Rattle.fluent_plural_rules.specs.LanguageTable.{cldr_plurals}
use Rattle.fluent_plural_rules.specs.Inside.Rows.{known_content}
use Rattle.fluent_plural_rules.proofs.TagLemmas.{own_first}
use Rattle.fluent_plural_rules.proofs.cldr.known_rules.Goals as goal

pub returns-in-Some-clause-texts : goal.returns-in-Some-clause-texts
returns-in-Some-clause-texts c =
    sym (own_first cldr_plurals c.loop-known.asked.now (known_content c.in-Some.known) (sym (c.in-Some.ensures.texts))) ∙ c.loop-known.invariant
